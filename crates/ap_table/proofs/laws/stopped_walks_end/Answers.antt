use Rattle.ap_table.proofs.Known.{walk_stops}
use Rattle.ap_table.proofs.laws.stopped_walks_end.Goals as goal

pub returns : goal.returns
returns g c = λ rule. walk_stops g.S.Step.step_of g.S.Step.depth rule g.met.S.Step.tells
