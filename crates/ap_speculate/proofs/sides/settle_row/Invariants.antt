use Rattle.std.proofs.Common.{length}
use Rattle.ap_speculate.proofs.Settling.{RowLeft}
use Rattle.ap_speculate.proofs.sides.settle_row.Given as goal

abbrev pub invariant-loop-dealer : goal.invariant-loop-dealer
invariant-loop-dealer l = RowLeft l.fn.owns.items l.fn.row.items l.owns.items l.row.items

abbrev pub decreases-loop-dealer : goal.decreases-loop-dealer
decreases-loop-dealer l = length l.row.items
