use Rattle.std.proofs.Common.{◌∙◌}
use Rattle.ap_speculate.proofs.Placing.{owned_begin, rest_begins, last_numbered}
use Rattle.ap_speculate.proofs.gathering.numbered.Goals as goal

pub loop-hand-init : goal.loop-hand-init
loop-hand-init g c = owned_begin c.args.hands.items g.D.Deques.all c.requires

pub owner-requires : goal.owner-requires
owner-requires g c =
    last_numbered c.len.result c.loop-hand.hands.items c.pop.new.self.items c.in-Some.hand g.D.Deques.all (c.len.ensures ∙ c.pop.new.self.ok.0) c.in-Some.ensures.items c.loop-hand.invariant

pub loop-hand-preserved : goal.loop-hand-preserved
loop-hand-preserved g c = rest_begins c.loop-hand.hands.items c.pop.new.self.items c.in-Some.hand g.D.Deques.all c.in-Some.ensures.items c.loop-hand.invariant
