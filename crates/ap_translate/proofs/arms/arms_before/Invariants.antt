use Rattle.std.proofs.Common.{◌≡◌, length}
use Rattle.ap_translate.specs.Kept.{arms_before}
use Rattle.ap_translate.proofs.arms.arms_before.Given as goal

-- the clauses that are left stand before those that are chained
abbrev pub invariant-loop-arm : goal.invariant-loop-arm
invariant-loop-arm l = arms_before l.left l.chain ≡ arms_before l.fn.arms l.fn.last

abbrev pub decreases-loop-arm : goal.decreases-loop-arm
decreases-loop-arm l = length l.left
