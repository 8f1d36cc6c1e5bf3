use Rattle.ap_linear.proofs.ByBits.{marks_right}
use Rattle.ap_linear.proofs.laws.marks_are_right.Goals as goal

pub returns : goal.returns
returns c = marks_right
