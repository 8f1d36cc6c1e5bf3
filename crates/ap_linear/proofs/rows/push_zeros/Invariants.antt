use Rattle.std.proofs.Common.{◌≡◌, ◌++◌}
use Rattle.ap_linear.specs.Steps.{zeros}
use Rattle.ap_linear.proofs.rows.push_zeros.Given as goal

-- what is there, and what is left
abbrev pub invariant-loop-left : goal.invariant-loop-left
invariant-loop-left l = l.by ++ zeros l.left ≡ l.fn.by ++ zeros l.count

abbrev pub decreases-loop-left : goal.decreases-loop-left
decreases-loop-left l = l.left
