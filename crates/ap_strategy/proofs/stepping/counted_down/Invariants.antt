use Rattle.std.proofs.Common.{◌≡◌, ◌++◌, map, length}
use Rattle.std.specs.Vec.Iter.{into_iter_items}
use Rattle.ap_list.specs.Lists.{Each}
use Rattle.ap_kernel.specs.Reductions.{KnownClause}
use Rattle.ap_strategy.specs.Goals.{defs_of}
use Rattle.ap_strategy.specs.Steps.{child, seen_below, counted_down}
use Rattle.ap_strategy.proofs.stepping.counted_down.Given as goal

-- the tasks so far, and those of the clauses that are to come, of which there are as many as the number says
abbrev pub invariant-loop-clause : goal.invariant-loop-clause
invariant-loop-clause g l = record {
  can_next : (goal.iterator-loop-clause g).can_next l.clause-iterator;
  is_finite : (goal.iterator-loop-clause g).is_finite l.clause-iterator;
  number : l.number ≡ length (into_iter_items l.clause-iterator);
  known : Each (KnownClause (defs_of l.task.plan)) (into_iter_items l.clause-iterator);
  to_come : l.out ++ map (child (seen_below l.under l.task)) (counted_down l.task.name (into_iter_items l.clause-iterator)) ≡ map (child (seen_below l.under l.task)) (counted_down l.task.name (into_iter_items l.initial.clause-iterator));
}
