use Rattle.ap_term.proofs.Equals.{same_is}
use Rattle.ap_bank.proofs.whole.WholePartialEq.eq.Goals as goal

pub returns : goal.returns
returns c = same_is c.same_term.result c.args.self.now.term c.args.other.now.term c.same_term.ensures
