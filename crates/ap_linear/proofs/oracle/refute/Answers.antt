use Rattle.std.proofs.Common.{rules}
use Rattle.ap_linear.proofs.Walks.{certified}
use Rattle.ap_linear.proofs.oracle.refute.Goals as goal

pub returns-clause-certifies : goal.returns-clause-certifies
returns-clause-certifies c = certified c.search.result c.args.polys.now (search rules)
