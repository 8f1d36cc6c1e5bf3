use Rattle.std.proofs.Common.{◌≢◌, ◌≤◌, length, drop}
use Rattle.ap_list.specs.Lists.{Each}
use Rattle.ap_table.proofs.live.stand.Given as goal

abbrev pub invariant-loop-at : goal.invariant-loop-at
invariant-loop-at l = record { within : l.at ≤ length l.live; others : Each (λ x. x ≢ l.node) (drop l.at l.live) }

abbrev pub decreases-loop-at : goal.decreases-loop-at
decreases-loop-at l = l.at
