use Rattle.std.proofs.Common.{sym, subst}
use Rattle.ap_world.specs.World.{Shown}
use Rattle.ap_rules.specs.Index.{IsIndex}
use Rattle.ap_strategy.proofs.Grounded.{ground_lent}
use Rattle.ap_strategy.proofs.simplifying.rewriter.Goals as goal

pub returns-clause-ready : goal.returns-clause-ready
returns-clause-ready c = record {
  ground = ground_lent c.world.result.now c.args.plan.now.world c.world.ensures c.requires.functions;
  index = subst (λ (w : Shown). IsIndex c.rules.result.now w.entries) (sym c.world.ensures) c.rules.ensures;
}
