use Rattle.std.proofs.Common.{◌≡◌, ◌+◌}
use Rattle.ap_elim.specs.Naming.{first_new}
use Rattle.ap_elim.proofs.naming.first_new.Given as goal

-- the numbers that are left have the answer
abbrev pub invariant-loop-left : goal.invariant-loop-left
invariant-loop-left l = (first_new l.stem l.literals l.left l.number ≡ first_new l.stem l.literals l.limit 1) × (l.number + l.left ≡ l.limit + 1)

abbrev pub decreases-loop-left : goal.decreases-loop-left
decreases-loop-left l = l.left
