use Rattle.ap_strategy.proofs.Rooted.{clause_is_goal}
use Rattle.ap_strategy.proofs.task.clause_task.Goals as goal

pub invariant_of-result : goal.invariant_of-result
invariant_of-result g c = (
  rw c.root_name.ensures (clause_is_goal c.args.plan.now c.args.clause c.in_ok-settings.settings c.requires.functions c.requires.known c.requires.hints c.in_ok-settings.ensures),
  c.requires.brand,
)
