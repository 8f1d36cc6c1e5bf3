use Rattle.std.proofs.Common.{◌∙◌}
use Rattle.ap_linear.proofs.Walks.{gcd-turn}
use Rattle.ap_linear.proofs.mixing.gcd.Goals as goal

pub loop-n-preserved : goal.loop-n-preserved
loop-n-preserved c = gcd-turn c.loop-n.m c.loop-n.n ∙ c.loop-n.invariant
