use Rattle.std.proofs.Common.{◌≡◌, ◌∙◌, Some, true, sym, ap, rules}
use Rattle.ap_term.specs.declared.term.Clause.{Clause}
use Rattle.ap_world.specs.World.{Shown}
use Rattle.ap_kernel.specs.declared.reductions.Inference.{Inference}
use Rattle.ap_strategy.specs.Goals.{Goal}
use Rattle.ap_strategy.specs.Leads.{once}
use Rattle.ap_strategy.specs.Steps.{makes_goals, hint_goals, reduced_to}
use Rattle.ap_strategy.proofs.Grounded.{ground_lent}
use Rattle.ap_strategy.proofs.StepLeads.{hint_to}
use Rattle.ap_strategy.proofs.reducing.with_hint.Goals as goal

pub by_hint-requires-clause-ground : goal.by_hint-requires-clause-ground
by_hint-requires-clause-ground g c =
    ground_lent c.world.result.now c.args.task.now.plan.world (c.world.ensures ∙ ap (λ (g : Goal). g.plan.world) c.task.view_is) c.recall_goal.ensures.functions

pub returns-clause-made : goal.returns-clause-made
returns-clause-made g c =
    let makes : makes_goals c.args.hint.now ≡ true = search rules in
    let lent : c.world.result.now ≡ c.args.task.now.plan.world = c.world.ensures ∙ ap (λ (g : Goal). g.plan.world) c.task.view_is in
    let copied : c.in_ok-clause.clause ≡ c.args.task.now.clause = c.in_ok-clause.ensures ∙ ap (λ (g : Goal). g.clause) c.task.view_is in
    ap (λ (i : Inference). Some (once i))
    (c.in_ok-reduction.ensures.made ∙ ap (λ (w : Shown). reduced_to c.in_ok-clause.clause (hint_goals w.entries c.args.hint.now c.in_ok-clause.clause)) lent
    ∙ ap (λ (d : Clause). reduced_to d (hint_goals c.args.task.now.plan.world.entries c.args.hint.now d)) copied)
    ∙ sym (hint_to c.args.task.now c.args.hint.now makes)
