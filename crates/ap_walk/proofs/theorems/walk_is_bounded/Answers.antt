use Rattle.ap_walk.proofs.Goods.{path_short}
use Rattle.ap_walk.proofs.Bounds.{walk_few, walk_stops, zero_open}
use Rattle.ap_walk.proofs.theorems.walk_is_bounded.Goals as goal

pub returns : goal.returns
returns g c = record {
  empty = zero_open;
  stops = walk_stops g.S.Step.step_of g.S.Step.depth g.met.S.Step.tells;
  marks = walk_few g.S.Step.step_of g.S.Step.depth g.met.S.Step.tells;
  path = path_short g.S.Step.step_of g.S.Step.depth g.met.S.Step.deeper;
}
