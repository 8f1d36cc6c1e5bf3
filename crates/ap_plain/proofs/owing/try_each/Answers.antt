use Rattle.std.proofs.Common.{◌≡◌, ◌<◌, ◌≤◌, ◌+◌, ◌++◌, [], length, drop, sym, ap, ◌∙◌, subst, arith, refl}
use Rattle.ap_list.specs.Lists.{Each}
use Rattle.ap_world.specs.Meaning.{Valid}
use Rattle.ap_attempt.specs.declared.verdict.Verdict.{Verdict}
use Rattle.ap_kernel.specs.Reductions.{KnownClause}
use Rattle.ap_strategy.specs.Goals.{defs_of}
use Rattle.ap_plain.specs.declared.attempting.Trial.{Trial}
use Rattle.ap_stated.specs.declared.owed.Owed.{Owed}
use Rattle.ap_plain.specs.Attempts.{tried, Tries}
use Rattle.ap_plain.proofs.Attempted.{SoFar, failed_here, proved_next, first_left, first_done, is_qed}
use Rattle.ap_plain.proofs.owing.try_each.Goals as goal

pub returns-in-Failed-clause-tried : goal.returns-in-Failed-clause-tried
returns-in-Failed-clause-tried g c =
    let added = c.in_ok-add_trial.ensures ∙ ap (λ h. record { lines = c.loop-one.all.lines ++ h ++ c.in_ok-trial.trial.lines; verdict = c.in_ok-trial.trial.verdict; goals = c.loop-one.all.goals + c.in_ok-trial.trial.goals; drops = c.loop-one.all.drops ++ c.in_ok-trial.trial.drops }) c.as_slice.ensures in
    subst (Tries (tried c.args.rule c.args.plan.now c.args.owed.now)) (sym added)
    (failed_here c.args.rule c.args.plan.now c.args.owed.now c.loop-one.one-index c.one-item.result c.loop-one.all.lines c.loop-one.all.goals c.loop-one.all.drops c.in_ok-trial.trial
    (omega arith) c.one-item.is c.loop-one.invariant.so_far c.in_ok-trial.ensures.tried c.in-Failed.field-0 (sym (ap (λ (a : Trial). a.verdict) added) ∙ c.in-Failed.is))

pub loop-one-preserved : goal.loop-one-preserved
loop-one-preserved g c =
    let P = λ (o : Owed). KnownClause (defs_of c.args.plan.now) o.clause in
    let V = λ (o : Owed). Valid (defs_of c.args.plan.now) o.clause.0 in
    let so = c.loop-one.invariant in
    let r = c.in_ok-trial.trial in
    let os = c.args.owed.now in
    let i = c.loop-one.one-index in
    let o = c.one-item.result in
    let within : i < length os = omega arith in
    let added = c.in_ok-add_trial.ensures ∙ ap (λ h. record { lines = c.loop-one.all.lines ++ h ++ r.lines; verdict = r.verdict; goals = c.loop-one.all.goals + r.goals; drops = c.loop-one.all.drops ++ r.drops }) c.as_slice.ensures in
    let all_qed : c.add_trial.new.all.verdict ≡ Verdict.Qed = is_qed c.add_trial.new.all.verdict c.in_default.not-Failed in
    let qed : r.verdict ≡ Verdict.Qed = sym (ap (λ (a : Trial). a.verdict) added) ∙ all_qed in
    record {
      known = (first_left P os i o within c.one-item.is so.known).1;
      valid = λ rest. so.valid (first_done V os i o within c.one-item.is (c.in_ok-trial.ensures.valid qed) rest);
      qed = all_qed;
      so_far = subst (λ (a : Trial). SoFar c.args.rule c.args.plan.now os (i + 1) a.lines a.goals a.drops) (sym added)
          (proved_next c.args.rule c.args.plan.now os i o c.loop-one.all.lines c.loop-one.all.goals c.loop-one.all.drops r within c.one-item.is so.so_far c.in_ok-trial.ensures.tried qed);
      alone = λ one. ap (λ (a : Trial). a.drops) added ∙ ap (λ ds. ds ++ r.drops) (so.alone one) ∙ c.in_ok-trial.ensures.alone one;
    }
