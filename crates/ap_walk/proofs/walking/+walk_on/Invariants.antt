use Rattle.std.proofs.Common.{◌≡◌, ◌<◌}
use Rattle.std.specs.Vec.Iter.{into_iter_items}
use Rattle.ap_list.specs.Lists.{Each}
use Rattle.ap_walk.specs.declared.rule.End.{End}
use Rattle.ap_walk.specs.Tallies.{IsOpen}
use Rattle.ap_walk.specs.Walks.{and_then, walk_all}
use Rattle.ap_walk.proofs.walking.+walk_on.Given as goal

abbrev pub decreases-walk_on : goal.decreases-walk_on
decreases-walk_on g l = g.S.Step.depth l.task

abbrev pub invariant-loop-child : goal.invariant-loop-child
invariant-loop-child g l = record {
  can_next : (goal.iterator-loop-child g).can_next l.child-iterator;
  is_finite : (goal.iterator-loop-child g).is_finite l.child-iterator;
  opened : l.so_far.end ≡ End.Through → IsOpen l.rule l.so_far.tally;
  below : Each (λ c. g.S.Step.depth c < g.S.Step.depth l.fn.task) (into_iter_items l.child-iterator);
  to_come :
      and_then l.so_far (walk_all g.S.Step.step_of g.S.Step.depth l.rule (into_iter_items l.child-iterator))
      ≡ and_then l.initial.so_far (walk_all g.S.Step.step_of g.S.Step.depth l.rule (into_iter_items l.initial.child-iterator));
}
