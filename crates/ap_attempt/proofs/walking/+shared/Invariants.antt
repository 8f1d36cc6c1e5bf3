use Rattle.std.proofs.Common.{ℕ, suc, ◌*◌}
use Rattle.ap_attempt.proofs.walking.+shared.Given as goal

abbrev pub decreases-follow : goal.decreases-follow
decreases-follow g l = 2 * g.S.Step.depth l.task

abbrev pub decreases-walk_shared : goal.decreases-walk_shared
decreases-walk_shared g l = suc (2 * g.S.Step.depth l.task)
