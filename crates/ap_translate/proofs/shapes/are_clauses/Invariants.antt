use Rattle.std.proofs.Common.{◌≡◌, length}
use Rattle.ap_translate.specs.Shapes.{are_arms}
use Rattle.ap_translate.proofs.shapes.are_clauses.Given as goal

-- what is left tells
abbrev pub invariant-loop-left : goal.invariant-loop-left
invariant-loop-left l = are_arms l.left ≡ are_arms l.forms

abbrev pub decreases-loop-left : goal.decreases-loop-left
decreases-loop-left l = length l.left
