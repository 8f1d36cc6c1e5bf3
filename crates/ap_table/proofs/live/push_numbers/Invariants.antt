use Rattle.std.proofs.Common.{◌≡◌, ◌≤◌, ◌+◌, ◌++◌, length, reverse}
use Rattle.std.specs.Vec.{vec_capacity}
use Rattle.ap_table.specs.Order.{numbers}
use Rattle.ap_table.proofs.live.push_numbers.Given as goal

abbrev pub invariant-loop-i : goal.invariant-loop-i
invariant-loop-i l = record {
  within : l.i ≤ l.count;
  room : length l.live.items + l.i ≤ vec_capacity l.live;
  items : l.live.items ++ reverse (numbers l.first l.i) ≡ l.initial.live.items ++ reverse (numbers l.first l.initial.i);
}

abbrev pub decreases-loop-i : goal.decreases-loop-i
decreases-loop-i l = l.i
