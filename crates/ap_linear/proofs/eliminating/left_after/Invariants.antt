use Rattle.std.proofs.Common.{◌≡◌}
use Rattle.ap_linear.specs.Ranked.{left_after}
use Rattle.ap_linear.proofs.eliminating.left_after.Given as goal

-- the atoms that are left are eliminated from what is there
abbrev pub invariant-loop-left : goal.invariant-loop-left
invariant-loop-left l = left_after l.atoms l.left l.out ≡ left_after l.atoms l.atoms l.fn.rows

abbrev pub decreases-loop-left : goal.decreases-loop-left
decreases-loop-left l = l.left
