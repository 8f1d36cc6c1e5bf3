use Rattle.std.proofs.Common.{◌≤◌}
use Rattle.std.specs.Prelude.{vec_len}
use Rattle.ap_speculate.proofs.starting.+work.Given as goal

abbrev pub decreases-spawn_scoped : goal.decreases-spawn_scoped
decreases-spawn_scoped g l = vec_len l.begun-spare

abbrev pub decreases-work : goal.decreases-work
decreases-work g l = vec_len l.spare

abbrev pub invariant-loop : goal.invariant-loop
invariant-loop g l =
    (goal.iterator-loop g).can_next l.iterator' × (goal.iterator-loop g).is_finite l.iterator' × (vec_len l.spare ≤ vec_len l.fn.spare)
