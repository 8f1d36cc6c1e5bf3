use Rattle.std.proofs.Common.{◌≡◌, ◌≤◌}
use Rattle.ap_word.specs.Seats.{seat_table, seat_view}
use Rattle.ap_tests_workers.proofs.tables.look.Given as goal

abbrev pub invariant-loop-i : goal.invariant-loop-i
invariant-loop-i l = record {
  looks : l.i ≤ (seat_view l.seat.seat).looks;
  low : (seat_view l.seat.seat).low ≡ l.found;
  same : (l.seat.place ≡ l.fn.seat.place) × (l.seat.family ≡ l.fn.seat.family) × (seat_table l.seat.seat ≡ seat_table l.fn.seat.seat);
}
