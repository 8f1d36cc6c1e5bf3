use Rattle.ap_attempt.proofs.Following.{only_turns, turns_from_is}
use Rattle.ap_attempt.proofs.theorems.attempt_goes_turn_by_turn.Goals as goal

pub returns : goal.returns
returns g c = record {
  turns = turns_from_is g.P.Step.step_of g.P.Step.depth g.met.P.Step.tells g.P.Prover.inducted;
  only = only_turns g.P.Step.step_of g.P.Step.depth g.met.P.Step.tells g.P.Prover.inducted;
}
