use Rattle.std.proofs.Common.{◌∙◌, ap, sym}
use Rattle.ap_strategy.specs.Goals.{Goal}
use Rattle.ap_chain.proofs.closing.recall_plan.Goals as goal

pub returns : goal.returns
returns g c = sym (ap (λ (x : Goal). x.plan) c.task.view_is) ∙ c.task.invariant.1
