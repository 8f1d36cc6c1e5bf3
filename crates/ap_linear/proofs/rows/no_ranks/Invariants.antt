use Rattle.std.proofs.Common.{◌≡◌}
use Rattle.ap_linear.specs.Ranked.{no_ranks}
use Rattle.ap_linear.proofs.rows.no_ranks.Given as goal

-- what is left has the answer
abbrev pub invariant-loop-count : goal.invariant-loop-count
invariant-loop-count l = no_ranks l.count l.left ≡ no_ranks l.atoms l.coefficients

abbrev pub decreases-loop-count : goal.decreases-loop-count
decreases-loop-count l = l.count
