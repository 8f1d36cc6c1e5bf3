use Rattle.std.proofs.Common.{length}
use Rattle.ap_speculate.specs.Sides.{AreRows}
use Rattle.ap_speculate.proofs.gathering.rows_of.Given as goal

abbrev pub invariant-loop-row : goal.invariant-loop-row
invariant-loop-row g l = AreRows g.D.Deques.all l.made.items

abbrev pub decreases-loop-row : goal.decreases-loop-row
decreases-loop-row g l = length l.rows.items
