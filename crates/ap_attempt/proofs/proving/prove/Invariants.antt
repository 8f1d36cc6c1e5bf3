use Rattle.std.proofs.Common.{◌≡◌, ◌≤◌, []}
use Rattle.ap_attempt.specs.Attempts.{attempt, turns_from}
use Rattle.ap_attempt.proofs.Making.{SoFar}
use Rattle.ap_attempt.proofs.proving.prove.Given as goal

abbrev pub decreases-loop-rest : goal.decreases-loop-rest
decreases-loop-rest g l = l.turn.rule.goal_limit

abbrev pub invariant-loop-rest : goal.invariant-loop-rest
invariant-loop-rest g l = record {
  so_far :
      SoFar g.P.Step.step_of g.P.Step.depth g.P.Step.name l.made.walks l.made.drops
      (turns_from g.P.Step.step_of g.P.Step.depth g.P.Prover.inducted (g.P.Prover.original_of l.root) (g.P.Prover.refuses_induction l.prover) l.turn)
      (attempt g.P.Step.step_of g.P.Step.depth g.P.Prover.inducted (g.P.Prover.original_of l.root) (g.P.Prover.refuses_induction l.prover) l.fn.rule l.root);
  alone : l.workers ≤ 1 → l.made.drops ≡ [];
}
