use Rattle.std.proofs.Common.{None}
use Rattle.ap_table.proofs.Known.{known_true}
use Rattle.ap_table.proofs.laws.known_stops_are_true.Goals as goal

pub returns : goal.returns
returns g c = λ rule ns k i n s at f e. known_true g.S.Step.step_of g.S.Step.depth rule None ns k n i s at f e
