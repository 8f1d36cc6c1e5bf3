use Rattle.std.proofs.Common.{◌∙◌, ap}
use Rattle.ap_strategy.specs.Goals.{Goal}
use Rattle.ap_strategy.proofs.Made.{made_known, made_few}
use Rattle.ap_strategy.proofs.later.later.Goals as goal

pub returns-clause-known : goal.returns-clause-known
returns-clause-known g c =
    made_known c.args.task.now c.recall_goal.ensures.functions c.world.result.now (c.world.ensures ∙ ap (λ (g : Goal). g.plan.world) c.task.view_is) c.recall_sound.ensures c.recall_goal.ensures.clause c.made_of-made.result (c.made_of-made.ensures ∙ c.in_ok-first.ensures.made)

pub returns-clause-few : goal.returns-clause-few
returns-clause-few g c =
    made_few c.args.task.now c.recall_goal.ensures.functions c.world.result.now (c.world.ensures ∙ ap (λ (g : Goal). g.plan.world) c.task.view_is) c.recall_sound.ensures c.recall_goal.ensures.clause c.made_of-made.result (c.made_of-made.ensures ∙ c.in_ok-first.ensures.made)
