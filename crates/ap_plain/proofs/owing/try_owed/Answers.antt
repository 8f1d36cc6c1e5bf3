use Rattle.std.proofs.Common.{subst}
use Rattle.std.specs.Prelude.{◌≡◌, IfOk}
use Rattle.ap_list.specs.Lists.{Each}
use Rattle.ap_world.specs.Meaning.{Valid}
use Rattle.ap_world.specs.World.{Shown, function_of}
use Rattle.ap_attempt.specs.declared.verdict.Verdict.{Verdict}
use Rattle.ap_plain.proofs.owing.try_owed.Goals as goal

-- the plan's world is the one that was lent
pub returns-clause-valid : goal.returns-clause-valid
returns-clause-valid g c =
    subst (λ (w : Shown). IfOk c.try_each-trial.result (λ t. t.verdict ≡ Verdict.Qed → Each (λ o. Valid (function_of w.entries) o.clause.0) c.args.owed.now)) c.replace.ensures.value c.try_each-trial.ensures.valid
