use Rattle.ap_walk.proofs.Trees.{walk_from_zero, walk_is_cut, walk_is_cut_of_all, walks_are_cut}
use Rattle.ap_walk.proofs.theorems.walk_is_cut.Goals as goal

pub returns : goal.returns
returns g c = record {
  full = walk_is_cut g.S.Step.step_of g.S.Step.depth g.met.S.Step.tells;
  all = walk_is_cut_of_all g.S.Step.step_of g.S.Step.depth g.met.S.Step.tells;
  siblings = walks_are_cut g.S.Step.step_of g.S.Step.depth g.met.S.Step.tells;
  zero = walk_from_zero g.S.Step.step_of g.S.Step.depth g.met.S.Step.tells;
}
