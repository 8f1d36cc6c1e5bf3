use Rattle.ap_speculate.specs.Turns.{WasClaimed}
use Rattle.ap_speculate.proofs.Holding.{known_of_last}
use Rattle.ap_speculate.proofs.supply.Supply.held_job.Goals as goal

pub returns : goal.returns
returns g c =
    known_of_last (WasClaimed g.S.Step.step_of g.S.Step.depth) c.self.inside.held.items c.pop.new.self.items c.pop.result c.pop.ensures.items c.self.invariant
