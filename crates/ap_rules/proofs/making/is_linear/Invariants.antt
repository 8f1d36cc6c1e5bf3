use Rattle.std.proofs.Common.{◌≡◌, length}
use Rattle.ap_rules.specs.Shapes.{is_linear}
use Rattle.ap_rules.proofs.making.is_linear.Given as goal

-- what is left tells
abbrev pub invariant-loop-left : goal.invariant-loop-left
invariant-loop-left l = is_linear l.left ≡ is_linear l.classes

abbrev pub decreases-loop-left : goal.decreases-loop-left
decreases-loop-left l = length l.left
