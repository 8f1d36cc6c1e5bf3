use Rattle.std.proofs.Common.{sym}
use Rattle.ap_rules.proofs.Placing.{placed_less, placed_too}
use Rattle.ap_rules.proofs.linears.Linears.pop.Goals as goal

pub invariant_of-self : goal.invariant_of-self
invariant_of-self c =
    placed_less c.self.inside.places.entries c.remove_place.new.places.entries c.in-Some-head_of.head.now c.self.inside.rules c.pop.new.self c.in-Some.rule
    (sym c.in-Some-head_of.ensures) c.in-Some.ensures c.remove_place.ensures c.self.invariant

pub invariant_of-self-in_default-head_of : goal.invariant_of-self-in_default-head_of
invariant_of-self-in_default-head_of c =
    placed_too c.self.inside.places.entries c.self.inside.rules c.pop.new.self c.in-Some.rule (sym c.in_default-head_of.ensures) c.in-Some.ensures c.self.invariant
