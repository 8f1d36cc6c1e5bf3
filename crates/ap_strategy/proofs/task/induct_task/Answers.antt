use Rattle.std.proofs.Common.{◌∙◌}
use Rattle.ap_strategy.specs.Goals.{Goal}
use Rattle.ap_strategy.proofs.Kept.{inducted_kept}
use Rattle.ap_strategy.proofs.task.induct_task.Goals as goal

pub invariant_of-result : goal.invariant_of-result
invariant_of-result g c =
    let t = c.task.inside in
    let goal_of : Goal = record { plan = t.plan.now; name = t.name; clause = t.clause; depth = t.depth; under = t.under; settings = t.settings; induct = t.induct; scheme = t.scheme } in
    (inducted_kept goal_of c.args.k c.in_ok-name.name c.in_ok-copy_terms.field-0 c.in_ok-settings.settings c.in_ok-scheme.scheme c.task.invariant.0 c.in_ok-name.ensures (c.in_ok-copy_terms.ensures ∙ c.as_slice.ensures) c.in_ok-settings.ensures c.in_ok-scheme.ensures, c.task.invariant.1)
