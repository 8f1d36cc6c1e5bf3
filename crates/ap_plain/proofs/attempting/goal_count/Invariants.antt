use Rattle.std.proofs.Common.{◌≡◌, ◌+◌, length}
use Rattle.ap_attempt.specs.Laws.{mark_count}
use Rattle.ap_plain.proofs.attempting.goal_count.Given as goal

-- the marks so far, with those of the walks that are left, are all
abbrev pub invariant-loop-left : goal.invariant-loop-left
invariant-loop-left g l = l.count + mark_count l.left ≡ mark_count l.walks

abbrev pub decreases-loop-left : goal.decreases-loop-left
decreases-loop-left g l = length l.left
