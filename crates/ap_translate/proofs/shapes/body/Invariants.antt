use Rattle.std.proofs.Common.{◌≡◌, length}
use Rattle.ap_translate.specs.Shapes.{body_in}
use Rattle.ap_translate.proofs.shapes.body.Given as goal

-- what is left tells
abbrev pub invariant-loop-left : goal.invariant-loop-left
invariant-loop-left l = body_in l.left ≡ body_in l.forms

abbrev pub decreases-loop-left : goal.decreases-loop-left
decreases-loop-left l = length l.left
