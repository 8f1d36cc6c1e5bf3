use Rattle.ap_term.proofs.Equals.{same_is}
use Rattle.ap_term.proofs.matching.is_same.Goals as goal

pub returns : goal.returns
returns c = same_is c.same_term.result c.args.a.now c.args.b.now c.same_term.ensures
