use Rattle.ap_walk.proofs.Goods.{walk_good}
use Rattle.ap_walk.proofs.theorems.good_walk_makes_root_good.Goals as goal

pub returns : goal.returns
returns g c =
    walk_good g.S.Step.step_of g.S.Step.depth g.S.Step.good g.met.S.Step.tells g.met.S.Step.deeper g.met.S.Step.whole
