use Rattle.std.proofs.Common.{◌∙◌, ap, sym}
use Rattle.ap_term.specs.declared.term.Clause.{Clause}
use Rattle.ap_strategy.specs.Goals.{Goal, hinted}
use Rattle.ap_strategy.proofs.Kept.{hinted_kept}
use Rattle.ap_strategy.proofs.task.hinted.Goals as goal

-- the task as it is seen has the parts that it holds
pub invariant_of-result : goal.invariant_of-result
invariant_of-result g c =
    let t = c.task.inside in
    let goal_of : Goal = record { plan = t.plan.now; name = t.name; clause = t.clause; depth = t.depth; under = t.under; settings = t.settings; induct = t.induct; scheme = t.scheme } in
    let seen = sym c.task.view_is in (
      hinted_kept goal_of c.in_ok-name.name c.in_ok-name.clause.0 c.in_ok-settings.settings c.in_ok-settings.scheme c.task.invariant.0
          (c.in_ok-name.ensures.0 ∙ ap (λ (x : Goal). x.name) seen)
          (ap (λ (k : Clause). k.0) c.in_ok-name.ensures.1 ∙ ap (λ (x : Goal). x.clause.0) seen)
          (c.in_ok-settings.ensures.0 ∙ ap (λ (x : Goal). (hinted x).settings) seen)
          (c.in_ok-settings.ensures.1 ∙ ap (λ (x : Goal). x.scheme) seen),
      c.task.invariant.1,
    )
