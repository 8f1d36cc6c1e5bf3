use Rattle.std.proofs.Common.{IfOk, IfSome, subst}
use Rattle.std.proofs.lemmas.Result.{IfOk-weaker}
use Rattle.ap_kernel.specs.Reductions.{Reduces}
use Rattle.ap_strategy.specs.declared.plan.Plan.{Plan}
use Rattle.ap_chain.proofs.Closed.{step_from}
use Rattle.ap_chain.proofs.closing.first_step.Goals as goal

pub returns-clause-stands : goal.returns-clause-stands
returns-clause-stands g c = subst (λ (p : Plan). IfOk c.reduce.result (λ o. IfSome o (Reduces p.world))) c.recall_plan.ensures c.reduce.ensures.stands

pub returns-clause-from : goal.returns-clause-from
returns-clause-from g c = IfOk-weaker c.reduce.result _ _ (λ o h. step_from c.args.task.now o h) c.reduce.ensures.made

pub returns-clause-made : goal.returns-clause-made
returns-clause-made g c = c.reduce.ensures.made
