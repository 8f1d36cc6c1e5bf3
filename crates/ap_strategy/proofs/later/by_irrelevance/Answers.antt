use Rattle.std.proofs.Common.{◌∙◌, ap}
use Rattle.ap_strategy.specs.Goals.{Goal}
use Rattle.ap_strategy.proofs.Grounded.{ground_lent}
use Rattle.ap_strategy.proofs.StepLeads.{irrelevance_from, leads_by}
use Rattle.ap_strategy.proofs.later.by_irrelevance.Goals as goal

pub irrelevance-requires-clause-ground : goal.irrelevance-requires-clause-ground
irrelevance-requires-clause-ground g c =
    ground_lent c.world.result.now c.args.task.now.plan.world (c.world.ensures ∙ ap (λ (g : Goal). g.plan.world) c.task.view_is) c.recall_goal.ensures.functions

pub returns-clause-leads : goal.returns-clause-leads
returns-clause-leads g c =
    leads_by c.args.task.now c.world.result.now (c.world.ensures ∙ ap (λ (g : Goal). g.plan.world) c.task.view_is) c.in_ok-made.made _ c.applied.result c.in_ok-made.ensures.stands c.in_ok-made.ensures.made
    (λ i e. irrelevance_from _ i e ∙ ap (λ (g : Goal). g.clause) c.task.view_is) c.applied.ensures.kept
