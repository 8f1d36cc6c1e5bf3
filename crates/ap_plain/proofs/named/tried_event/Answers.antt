use Rattle.std.proofs.Common.{◌≡◌, [], sym, subst}
use Rattle.ap_list.specs.Lists.{Each}
use Rattle.ap_world.specs.Meaning.{Valid}
use Rattle.ap_world.specs.World.{Shown, function_of}
use Rattle.ap_attempt.specs.declared.verdict.Verdict.{Verdict}
use Rattle.ap_walk.specs.declared.rule.Rule.{Rule}
use Rattle.ap_stated.specs.declared.owed.Owed.{Owed}
use Rattle.ap_plain.specs.Attempts.{before, first_rule, tried, plan_for, Tries}
use Rattle.ap_plain.specs.Proposals.{opening_of, owed_of}
use Rattle.ap_plain.proofs.Proposed.{at_tried}
use Rattle.ap_plain.proofs.named.tried_event.Goals as goal

-- the world is as it was
pub end_tried-requires-clause-valid : goal.end_tried-requires-clause-valid
end_tried-requires-clause-valid g c =
    subst (λ (u : Shown). c.in_ok-trial.trial.verdict ≡ Verdict.Qed → Each (λ (o : Owed). Valid (function_of u.entries) o.clause.0) (owed_of c.args.proposal))
    (sym c.try_proposal.ensures.same) c.in_ok-trial.ensures.valid

-- the rule is that of the limits and of what is asked for
pub returns-clause-done : goal.returns-clause-done
returns-clause-done g c =
    let p = c.args.proposal in
    let w = c.args.w.now in
    let R = λ (r : Rule). Tries (before (opening_of p) [] (tried r (plan_for c.args.limits.now w c.args.hints) (owed_of p))) c.in_ok-trial.trial in
    at_tried c.end_tried.result w c.end_tried.new.w c.try_proposal.new.w c.args.asked.now.title.now c.args.asked.now.enabled p c.in_ok-trial.trial
    (before (opening_of p) [] (tried (first_rule c.args.limits.now c.args.asked.now.otf) (plan_for c.args.limits.now w c.args.hints) (owed_of p)))
    c.try_proposal.ensures.same (subst R c.first_rule-rule.ensures c.in_ok-trial.ensures.tried) c.end_tried.ensures.done
