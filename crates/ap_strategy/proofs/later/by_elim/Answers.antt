use Rattle.std.proofs.Common.{◌∙◌, ap}
use Rattle.ap_strategy.specs.Goals.{Goal}
use Rattle.ap_strategy.proofs.Grounded.{ground_lent}
use Rattle.ap_strategy.proofs.StepLeads.{elim_from, leads_by}
use Rattle.ap_strategy.proofs.later.by_elim.Goals as goal

pub elim-requires-clause-ground : goal.elim-requires-clause-ground
elim-requires-clause-ground g c =
    ground_lent c.world-w.result.now c.args.task.now.plan.world (c.world-w.ensures ∙ ap (λ (g : Goal). g.plan.world) c.task.view_is) c.recall_goal.ensures.functions

pub returns-clause-leads : goal.returns-clause-leads
returns-clause-leads g c =
    leads_by c.args.task.now c.world-w.result.now (c.world-w.ensures ∙ ap (λ (g : Goal). g.plan.world) c.task.view_is) c.in_ok-made.made _ c.applied.result c.in_ok-made.ensures.stands c.in_ok-made.ensures.made
    (λ i e. elim_from c.task.inside.settings.theory c.task.inside.clause i e ∙ ap (λ (g : Goal). g.clause) c.task.view_is) c.applied.ensures.kept
