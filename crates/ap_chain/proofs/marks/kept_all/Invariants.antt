use Rattle.std.proofs.Common.{◌≡◌, []}
use Rattle.std.specs.Vec.Iter.{into_iter_items}
use Rattle.ap_chain.specs.Marks.{kept_from}
use Rattle.ap_chain.proofs.marks.kept_all.Given as goal

-- the marks so far, and those of the walks that are to come
abbrev pub invariant-loop-walked : goal.invariant-loop-walked
invariant-loop-walked g l = record {
  can_next : (goal.iterator-loop-walked g).can_next l.walked-iterator;
  is_finite : (goal.iterator-loop-walked g).is_finite l.walked-iterator;
  to_come : kept_from l.out (into_iter_items l.walked-iterator) ≡ kept_from [] (into_iter_items l.initial.walked-iterator);
}
