use Rattle.ap_speculate.specs.Turns.{WasClaimed}
use Rattle.ap_speculate.proofs.Holding.{known_with_last}
use Rattle.ap_speculate.proofs.supply.Supply.hold.Goals as goal

pub invariant_of-self-2 : goal.invariant_of-self-2
invariant_of-self-2 g c =
    known_with_last (WasClaimed g.S.Step.step_of g.S.Step.depth) c.self.inside.held.items c.push.new.self.items c.in-Some.job c.in_ok-push.ensures.items c.self.invariant c.in-Some.ensures
