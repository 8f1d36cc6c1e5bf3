use Rattle.std.proofs.Common.{◌≡◌, ◌≤◌, ◌<◌, ◌+◌, true, None}
use Rattle.ap_table.specs.Sums.{sums_of, sum_first, sum_stops}
use Rattle.ap_table.proofs.telling.lower.Given as goal

abbrev pub invariant-loop-at : goal.invariant-loop-at
invariant-loop-at g l = record {
  within : l.at ≤ l.from;
  sum : l.sum ≡ sum_first (sums_of None l.nodes.items l.first l.count) l.at;
  stop : l.at < l.from → sum_stops l.rule (sum_first (sums_of None l.nodes.items l.first l.count) (l.at + 1)) ≡ true;
}

abbrev pub decreases-loop-at : goal.decreases-loop-at
decreases-loop-at g l = l.at
