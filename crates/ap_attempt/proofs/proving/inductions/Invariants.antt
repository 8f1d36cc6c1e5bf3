use Rattle.std.proofs.Common.{◌≡◌, ◌+◌, ◌≤◌, ◌++◌, drop}
use Rattle.ap_walk.specs.Laws.{pushed}
use Rattle.ap_attempt.specs.Attempts.{inductions}
use Rattle.ap_attempt.proofs.proving.inductions.Given as goal

abbrev pub invariant-loop-mark : goal.invariant-loop-mark
invariant-loop-mark g l = record {
  from_one : 1 ≤ l.number;
  counted : l.number ≤ l.mark-index + 1;
  to_come : l.tasks ++ inductions g.P.Prover.inducted l.number (pushed (drop l.mark-index l.marks)) ≡ inductions g.P.Prover.inducted 1 (pushed l.marks);
}
