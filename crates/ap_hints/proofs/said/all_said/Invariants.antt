use Rattle.std.proofs.Common.{◌≡◌, length}
use Rattle.ap_hints.specs.Hinted.{nothing, all_said}
use Rattle.ap_hints.proofs.said.all_said.Given as goal

-- what is left tells
abbrev pub invariant-loop-left : goal.invariant-loop-left
invariant-loop-left l = all_said l.w l.at_goal l.said l.left ≡ all_said l.w l.at_goal nothing l.forms

abbrev pub decreases-loop-left : goal.decreases-loop-left
decreases-loop-left l = length l.left
