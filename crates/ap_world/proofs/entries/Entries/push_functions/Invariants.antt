use Rattle.std.proofs.Common.{◌≡◌, ◌++◌, List, map, false}
use Rattle.std.specs.Vec.Iter.{into_iter_items}
use Rattle.ap_world.specs.declared.entry.Entry.{Entry}
use Rattle.ap_world.specs.declared.entry.Entry.TheVariants as entry
use Rattle.ap_world.specs.World.{are_taken}
use Rattle.ap_world.proofs.entries.Entries.push_functions.Given as goal

-- the functions so far stand at the end, and the others are to come
abbrev pub invariant-loop-function : goal.invariant-loop-function
invariant-loop-function l = record {
  can_next : goal.iterator-loop-function.can_next l.function-iterator;
  is_finite : goal.iterator-loop-function.is_finite l.function-iterator;
  to_come : l.self ++ map entry.Function (into_iter_items l.function-iterator) ≡ l.initial.self ++ map entry.Function (into_iter_items l.initial.function-iterator);
  free : are_taken l.self (into_iter_items l.function-iterator) ≡ false;
  more : (X : List Entry) × (l.self ≡ l.initial.self ++ X);
}
