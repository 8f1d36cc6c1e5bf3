use Rattle.ap_strategy.proofs.Grounded.{ground_lent}
use Rattle.ap_strategy.proofs.simplifying.open.Goals as goal

pub use_equality-requires-clause-ground : goal.use_equality-requires-clause-ground
use_equality-requires-clause-ground c = ground_lent c.world.result.now c.args.plan.now.world c.world.ensures c.requires.functions
