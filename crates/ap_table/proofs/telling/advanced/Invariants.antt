use Rattle.std.proofs.Common.{◌≤◌, ◌-◌, None}
use Rattle.ap_table.specs.Laws.{FrontDone}
use Rattle.ap_table.specs.Sums.{sums_of}
use Rattle.ap_table.proofs.telling.advanced.Given as goal

abbrev pub invariant-loop-at : goal.invariant-loop-at
invariant-loop-at g l = record { within : l.at ≤ l.count; done : FrontDone (sums_of None l.nodes.items l.first l.count) l.at }

abbrev pub decreases-loop-at : goal.decreases-loop-at
decreases-loop-at g l = l.count - l.at
