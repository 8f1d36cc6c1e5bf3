use Rattle.std.proofs.Common.{◌∙◌, ap, sym, subst}
use Rattle.ap_world.specs.World.{Shown}
use Rattle.ap_kernel.specs.Reductions.{Reduces}
use Rattle.ap_strategy.specs.declared.plan.Plan.{Plan}
use Rattle.ap_strategy.specs.Goals.{Goal}
use Rattle.ap_chain.proofs.Closed.{close_each, close_chained, chained_from}
use Rattle.ap_chain.proofs.closing.closing.Goals as goal

pub chain-requires-clause-first : goal.chain-requires-clause-first
chain-requires-clause-first g c =
    subst (λ (w : Shown). Reduces w c.args.first)
    (sym (c.world.ensures ∙ ap (λ (x : Goal). x.plan.world) c.task.view_is ∙ ap (λ (p : Plan). p.world) c.recall_plan.ensures))
    c.requires.first

pub chain-requires-clause-rest : goal.chain-requires-clause-rest
chain-requires-clause-rest g c =
    close_each g.J.Planned.plan.world c.world.result.now c.args.rest
    (c.world.ensures ∙ ap (λ (x : Goal). x.plan.world) c.task.view_is ∙ ap (λ (p : Plan). p.world) c.recall_plan.ensures) c.requires.rest

pub chain-requires-clause-goals : goal.chain-requires-clause-goals
chain-requires-clause-goals g c = c.requires.goals

pub returns-clause-closes : goal.returns-clause-closes
returns-clause-closes g c =
    close_chained c.chain.result g.J.Planned.plan.world c.world.result.now c.args.first c.args.rest
    (c.world.ensures ∙ ap (λ (x : Goal). x.plan.world) c.task.view_is ∙ ap (λ (p : Plan). p.world) c.recall_plan.ensures)
    c.chain.ensures.stands c.chain.ensures.made c.requires.rest

pub returns-clause-from : goal.returns-clause-from
returns-clause-from g c = chained_from c.chain.result c.args.first c.args.rest c.chain.ensures.made
