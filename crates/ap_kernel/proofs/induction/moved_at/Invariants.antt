use Rattle.std.proofs.Common.{◌≡◌, ◌++◌, length}
use Rattle.ap_kernel.specs.Induction.{moved_at}
use Rattle.ap_kernel.proofs.induction.moved_at.Given as goal

-- what is made, and what will be of the rest
abbrev pub invariant-loop-left : goal.invariant-loop-left
invariant-loop-left l = l.out ++ moved_at l.s.0 l.left l.values ≡ moved_at l.s.0 l.places l.call

abbrev pub decreases-loop-left : goal.decreases-loop-left
decreases-loop-left l = length l.left
