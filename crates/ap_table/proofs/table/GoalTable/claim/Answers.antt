use Rattle.ap_table.proofs.Worded.{found_was}
use Rattle.ap_table.proofs.table.GoalTable.claim.Goals as goal

pub returns-clause-step : goal.returns-clause-step
returns-clause-step g c = record { old = _; new = _; allowed = c.recall_allowed.ensures; done = c.claim_step-claim.ensures.claims }

pub returns-clause-of : goal.returns-clause-of
returns-clause-of g c = found_was g.S.Step.step_of g.S.Step.depth _ _ c.claim_step-claim.result c.recall_allowed.ensures c.claim_step-claim.ensures.words c.claim_step-claim.ensures.of
