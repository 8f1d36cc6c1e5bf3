use Rattle.ap_walk.proofs.Trees.{all_marks_is}
use Rattle.ap_walk.proofs.theorems.all_marks_are_own_and_children.Goals as goal

pub returns : goal.returns
returns g c = all_marks_is g.S.Step.step_of g.S.Step.depth g.met.S.Step.deeper
