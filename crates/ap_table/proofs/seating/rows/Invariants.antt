use Rattle.std.proofs.Common.{◌≡◌, length}
use Rattle.ap_table.specs.Seated.{AreRows}
use Rattle.ap_table.proofs.seating.rows.Given as goal

abbrev pub invariant-loop-place : goal.invariant-loop-place
invariant-loop-place l = record {
  same : l.seats.items ≡ l.fn.seats.items;
  own : l.own ≡ l.fn.own;
  long : length l.rows.items ≡ l.place;
  rows : AreRows l.fn.seats.items l.path l.family l.fn.own l.rows.items;
}
