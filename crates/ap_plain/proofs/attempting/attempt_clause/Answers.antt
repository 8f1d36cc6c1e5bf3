use Rattle.std.proofs.Common.{◌≡◌, IfOk, subst}
use Rattle.ap_term.specs.declared.term.Clause.{Clause}
use Rattle.ap_world.specs.Meaning.{Valid}
use Rattle.ap_attempt.specs.declared.verdict.Verdict.{Verdict}
use Rattle.ap_strategy.specs.Goals.{defs_of}
use Rattle.ap_plain.proofs.attempting.attempt_clause.Goals as goal

pub returns-clause-valid : goal.returns-clause-valid
returns-clause-valid g c =
    subst (λ (k : Clause). IfOk c.attempt_moved.result (λ t. t.verdict ≡ Verdict.Qed → Valid (defs_of c.args.plan.now) k.0)) c.in_ok-clause.ensures c.attempt_moved.ensures.valid
