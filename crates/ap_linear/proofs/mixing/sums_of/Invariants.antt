use Rattle.std.proofs.Common.{◌≡◌}
use Rattle.ap_linear.specs.Ranked.{sums_of}
use Rattle.ap_linear.proofs.Walks.{onto_all}
use Rattle.ap_linear.proofs.mixing.sums_of.Given as goal

-- the sums so far, and those of what is left
abbrev pub invariant-loop-count : goal.invariant-loop-count
invariant-loop-count l = onto_all l.out (sums_of l.count l.k l.left l.l l.right) ≡ sums_of l.atoms l.k l.xs l.l l.ys

abbrev pub decreases-loop-count : goal.decreases-loop-count
decreases-loop-count l = l.count
