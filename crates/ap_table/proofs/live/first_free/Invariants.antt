use Rattle.std.proofs.Common.{◌≤◌, length, drop}
use Rattle.ap_list.specs.Lists.{Each}
use Rattle.ap_table.specs.Live.{IsBusy}
use Rattle.ap_table.proofs.live.first_free.Given as goal

abbrev pub invariant-loop-at : goal.invariant-loop-at
invariant-loop-at g l = record { within : l.at ≤ length l.live; busy : Each (IsBusy l.nodes.items) (drop l.at l.live) }

abbrev pub decreases-loop-at : goal.decreases-loop-at
decreases-loop-at g l = l.at
