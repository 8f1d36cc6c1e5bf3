use Rattle.std.proofs.Common.{◌∙◌, ap}
use Rattle.ap_strategy.specs.Goals.{Goal}
use Rattle.ap_strategy.proofs.StepLeads.{generalize_from, leads_by}
use Rattle.ap_strategy.proofs.later.by_generalize.Goals as goal

pub returns-clause-leads : goal.returns-clause-leads
returns-clause-leads g c =
    leads_by c.args.task.now c.world.result.now (c.world.ensures ∙ ap (λ (g : Goal). g.plan.world) c.task.view_is) c.in_ok-made.made _ c.applied.result c.in_ok-made.ensures.stands c.in_ok-made.ensures.made
    (λ i e. generalize_from c.world.result.now c.task.inside.clause i e ∙ ap (λ (g : Goal). g.clause) c.task.view_is) c.applied.ensures.kept
