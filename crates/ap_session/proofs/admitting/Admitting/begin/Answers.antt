use Rattle.std.proofs.Common.{◌≡◌, ◌∙◌, true, false}
use Rattle.ap_session.proofs.Passing.{start_stands}
use Rattle.ap_session.proofs.admitting.Admitting.begin.Goals as goal

pub invariant_of-self : goal.invariant_of-self
invariant_of-self g c = record {
  stands = start_stands c.self.inside.limits c.self.inside.earlier c.self.inside.world c.in_ok-again.again (c.self.invariant.begins c.if-self.true) (c.in_ok-again.ensures ∙ c.self.invariant.begins c.if-self.true) c.self.invariant.stands.distinct;
  begins = λ h. absurd (let k : false ≡ true = h in cc);
}

pub invariant_of-self-2 : goal.invariant_of-self-2
invariant_of-self-2 g c = record {
  stands = start_stands c.self.inside.limits c.self.inside.earlier c.in_ok-world.world c.in_ok-again-2.again c.in_ok-world.ensures (c.in_ok-again-2.ensures ∙ c.in_ok-world.ensures) c.self.invariant.stands.distinct;
  begins = λ e. c.in_ok-world.ensures;
}
