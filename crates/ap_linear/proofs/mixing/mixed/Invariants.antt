use Rattle.std.proofs.Common.{◌≡◌, length}
use Rattle.ap_poly.specs.Elimination.{mixed}
use Rattle.ap_linear.proofs.Walks.{onto}
use Rattle.ap_linear.proofs.mixing.mixed.Given as goal

-- the multipliers so far, and those of what is left
abbrev pub invariant-loop-left : goal.invariant-loop-left
invariant-loop-left l = onto l.by (mixed l.k l.left l.l l.right) ≡ mixed l.k l.xs l.l l.ys

abbrev pub decreases-loop-left : goal.decreases-loop-left
decreases-loop-left l = length l.left
