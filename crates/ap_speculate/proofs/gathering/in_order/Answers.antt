use Rattle.ap_speculate.proofs.Placing.{next_in_order}
use Rattle.ap_speculate.proofs.gathering.in_order.Goals as goal

pub loop-at-preserved : goal.loop-at-preserved
loop-at-preserved g c = next_in_order c.loop-at.at c.loop-at.hands.items c.push.new.self.items c.in_ok-hand.hand g.D.Deques.all c.loop-at.invariant c.in_ok-hand.ensures c.in-Ok.ensures.items
