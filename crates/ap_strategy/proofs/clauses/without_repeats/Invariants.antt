use Rattle.std.proofs.Common.{◌≡◌, []}
use Rattle.std.specs.Vec.Iter.{into_iter_items}
use Rattle.ap_strategy.specs.Steps.{unrepeated}
use Rattle.ap_strategy.proofs.clauses.without_repeats.Given as goal

-- the clauses so far, and those that are to come
abbrev pub invariant-loop-c : goal.invariant-loop-c
invariant-loop-c l = record {
  can_next : goal.iterator-loop-c.can_next l.c-iterator;
  is_finite : goal.iterator-loop-c.is_finite l.c-iterator;
  to_come : unrepeated l.out (into_iter_items l.c-iterator) ≡ unrepeated [] (into_iter_items l.initial.c-iterator);
}
