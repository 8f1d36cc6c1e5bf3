use Rattle.ap_walk.proofs.Trees.{full_is_cut_of_family, walk_is, walk_is_cut_of_family}
use Rattle.ap_walk.proofs.theorems.walk_is_visit_and_children.Goals as goal

pub returns : goal.returns
returns g c = record {
  walks = λ rule. walk_is g.S.Step.step_of g.S.Step.depth g.met.S.Step.tells rule g.met.S.Step.deeper;
  cuts = λ rule. walk_is_cut_of_family g.S.Step.step_of g.S.Step.depth g.met.S.Step.tells rule g.met.S.Step.deeper;
  full = λ rule. full_is_cut_of_family g.S.Step.step_of g.S.Step.depth g.met.S.Step.tells rule g.met.S.Step.deeper;
}
