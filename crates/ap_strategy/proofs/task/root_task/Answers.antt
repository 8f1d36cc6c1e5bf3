use Rattle.ap_strategy.proofs.Rooted.{flat_known}
use Rattle.ap_strategy.proofs.Grounded.{sound_lent}
use Rattle.ap_strategy.proofs.task.root_task.Goals as goal

pub clause_task-requires-clause-known : goal.clause_task-requires-clause-known
clause_task-requires-clause-known g c =
    flat_known c.args.plan.now c.args.term.now c.in_ok-clause.clause (sound_lent c.world.result.now c.args.plan.now.world c.world.ensures c.recall_sound.ensures) c.requires.functions c.requires.term c.in_ok-clause.ensures.stands
