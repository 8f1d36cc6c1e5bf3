use Rattle.std.proofs.Common.{◌≡◌, length}
use Rattle.ap_rules.specs.Shapes.{first_trigger}
use Rattle.ap_rules.proofs.shapes.first_trigger.Given as goal

-- what is left tells
abbrev pub invariant-loop-left : goal.invariant-loop-left
invariant-loop-left l = first_trigger l.t l.left ≡ first_trigger l.t l.atoms

abbrev pub decreases-loop-left : goal.decreases-loop-left
decreases-loop-left l = length l.left
