use Rattle.std.proofs.Common.{◌≡◌, length}
use Rattle.ap_world.specs.Prescribing.{prescribes}
use Rattle.ap_rules.proofs.making.prescribes.Given as goal

-- what is left tells
abbrev pub invariant-loop-left : goal.invariant-loop-left
invariant-loop-left l = prescribes l.left ≡ prescribes l.classes

abbrev pub decreases-loop-left : goal.decreases-loop-left
decreases-loop-left l = length l.left
