use Rattle.ap_table.proofs.After.{after_sound}
use Rattle.ap_table.proofs.Joining.{finished}
use Rattle.ap_table.specs.Core.{replay}
use Rattle.ap_table.proofs.laws.pieces_make_the_walk.Goals as goal

pub returns : goal.returns
returns g c = λ rule t es k n w a at e.
    finished g.S.Step.step_of g.S.Step.depth rule g.met.S.Step.tells g.met.S.Step.deeper (replay g.S.Step.step_of g.S.Step.depth rule t es)
    (after_sound g.S.Step.step_of g.S.Step.depth rule g.met.S.Step.tells g.met.S.Step.deeper t es a) k n w at e
