use Rattle.std.proofs.Common.{length}
use Rattle.ap_speculate.proofs.Settling.{RowsLeft}
use Rattle.ap_speculate.proofs.sides.settle_all.Given as goal

abbrev pub invariant-loop-row : goal.invariant-loop-row
invariant-loop-row l = RowsLeft l.fn.owns.items l.fn.rows.items l.owns.items l.rows.items

abbrev pub decreases-loop-row : goal.decreases-loop-row
decreases-loop-row l = length l.rows.items
