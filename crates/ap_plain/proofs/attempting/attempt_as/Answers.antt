use Rattle.std.proofs.Common.{◌≡◌, IfOk, subst}
use Rattle.ap_attempt.specs.declared.verdict.Verdict.{Verdict}
use Rattle.ap_strategy.specs.Goals.{Goal}
use Rattle.ap_strategy.specs.Steps.{IsGood}
use Rattle.ap_plain.proofs.attempting.attempt_as.Goals as goal

pub returns-clause-good : goal.returns-clause-good
returns-clause-good g c = subst (λ (x : Goal). IfOk c.attempt_from.result (λ t. t.verdict ≡ Verdict.Qed → IsGood x)) c.in_ok-root.ensures c.attempt_from.ensures.good
