use Rattle.std.proofs.Common.{◌≡◌, length}
use Rattle.ap_rules.specs.Shapes.{all_inequalities}
use Rattle.ap_rules.proofs.shapes.are_inequalities.Given as goal

-- what is left tells
abbrev pub invariant-loop-left : goal.invariant-loop-left
invariant-loop-left l = all_inequalities l.left ≡ all_inequalities l.parts

abbrev pub decreases-loop-left : goal.decreases-loop-left
decreases-loop-left l = length l.left
