use Rattle.std.proofs.Common.{◌≡◌, ◌+◌, ◌*◌, ◌≤◌, false, length}
use Rattle.ap_reader.specs.Reading.{with_forms, items_of}
use Rattle.ap_reader.proofs.reading.+reading.Given as goal

abbrev pub decreases-form : goal.decreases-form
decreases-form l = 8 * l.left + 4

abbrev pub decreases-body : goal.decreases-body
decreases-body l = 8 * l.left + 3

abbrev pub decreases-marked : goal.decreases-marked
decreases-marked l = 8 * l.left + 2

abbrev pub decreases-list : goal.decreases-list
decreases-list l = 8 * l.left + 2

abbrev pub decreases-items : goal.decreases-items
decreases-items l = 8 * l.left + 6

abbrev pub decreases-tail : goal.decreases-tail
decreases-tail l = 8 * l.left + 5

-- the forms so far, before those that are left, are all
abbrev pub invariant-items-loop-out : goal.invariant-items-loop-out
invariant-items-loop-out l = record {
  whole : with_forms l.out (items_of l.left l.some l.place l.tokens) ≡ items_of l.left false l.place l.fn.tokens;
  fewer : length l.tokens.rest ≤ length l.fn.tokens.rest;
}

abbrev pub decreases-items-loop-out : goal.decreases-items-loop-out
decreases-items-loop-out l = length l.tokens.rest
