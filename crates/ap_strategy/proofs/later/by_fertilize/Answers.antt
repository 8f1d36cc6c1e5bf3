use Rattle.std.proofs.Common.{◌∙◌, ap}
use Rattle.ap_strategy.specs.Goals.{Goal}
use Rattle.ap_strategy.proofs.Grounded.{ground_lent}
use Rattle.ap_strategy.proofs.StepLeads.{fertilize_from, leads_by}
use Rattle.ap_strategy.proofs.later.by_fertilize.Goals as goal

pub fertilize-requires-clause-ground : goal.fertilize-requires-clause-ground
fertilize-requires-clause-ground g c =
    ground_lent c.world.result.now c.args.task.now.plan.world (c.world.ensures ∙ ap (λ (g : Goal). g.plan.world) c.task.view_is) c.recall_goal.ensures.functions

pub returns-clause-leads : goal.returns-clause-leads
returns-clause-leads g c =
    leads_by c.args.task.now c.world.result.now (c.world.ensures ∙ ap (λ (g : Goal). g.plan.world) c.task.view_is) c.in_ok-made.made _ c.applied.result c.in_ok-made.ensures.stands c.in_ok-made.ensures.made
    (λ i e. fertilize_from _ i e ∙ ap (λ (g : Goal). g.clause) c.task.view_is) c.applied.ensures.kept
