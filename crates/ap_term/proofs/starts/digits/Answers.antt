use Rattle.ap_term.proofs.Wholes.{integer_whole}
use Rattle.ap_term.proofs.starts.digits.Goals as goal

pub returns-clause-whole : goal.returns-clause-whole
returns-clause-whole c = integer_whole c.args.n c.ranges.n.sfits
