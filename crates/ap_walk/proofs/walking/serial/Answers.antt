-- The walk from the empty tally, as the walk that began with nothing.
use Rattle.std.proofs.Common.{◌≡◌, ◌≤◌, length, sym, ◌∙◌, subst}
use Rattle.ap_list.specs.Lists.{Each}
use Rattle.ap_walk.specs.declared.rule.End.{End}
use Rattle.ap_walk.specs.Tallies.{zero_tally}
use Rattle.ap_walk.specs.Walks.{walk}
use Rattle.ap_walk.specs.Laws.{pushed, StopsAt}
use Rattle.ap_walk.proofs.Trees.{walk_from_zero}
use Rattle.ap_walk.proofs.Goods.{walk_good}
use Rattle.ap_walk.proofs.Bounds.{zero_open, walk_stops, walk_few_from_zero}
use Rattle.ap_walk.proofs.GoOn.{alone}
use Rattle.ap_walk.proofs.walking.serial.Goals as goal

pub returns : goal.returns
returns g c =
    let step = g.S.Step.step_of in
    let depth = g.S.Step.depth in
    let tells = g.met.S.Step.tells in
    let rule = c.args.rule in
    let task = c.args.task.now in
    let is = alone (walk step depth rule) c.walk_on.new.so_far c.new.result c.in_ok-task.task task zero_tally c.new.ensures c.in_ok-task.ensures c.in_ok-walk_on.ensures.walked in
    record {
      walked = is;
      whole = is ∙ walk_from_zero step depth tells rule task;
      few = subst (λ w. length w.marks ≤ rule.goal_limit) (sym is) (walk_few_from_zero step depth tells rule task);
      stops = subst (StopsAt rule) (sym is) (walk_stops step depth tells rule task zero_tally (zero_open rule));
      good = subst (λ w. w.end ≡ End.Through → Each g.S.Step.good (pushed w.marks) → g.S.Step.good task) (sym is)
          (walk_good step depth g.S.Step.good tells g.met.S.Step.deeper g.met.S.Step.whole rule task zero_tally);
    }
