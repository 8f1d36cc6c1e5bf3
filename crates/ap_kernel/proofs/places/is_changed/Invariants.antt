use Rattle.std.proofs.Common.{◌≡◌, length, zip}
use Rattle.ap_world.specs.Recursion.{is_changed}
use Rattle.ap_kernel.proofs.places.is_changed.Given as goal

-- what is left decides
abbrev pub invariant-loop-left : goal.invariant-loop-left
invariant-loop-left l = is_changed l.x (zip l.left l.values) ≡ is_changed l.x (zip l.formals l.arguments)

abbrev pub decreases-loop-left : goal.decreases-loop-left
decreases-loop-left l = length l.left
