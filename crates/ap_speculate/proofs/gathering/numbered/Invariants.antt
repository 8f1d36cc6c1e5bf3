use Rattle.std.proofs.Common.{length}
use Rattle.ap_speculate.specs.Sides.{owned}
use Rattle.ap_speculate.proofs.Siding.{Begins}
use Rattle.ap_speculate.proofs.gathering.numbered.Given as goal

-- what is left are the first deques
abbrev pub invariant-loop-hand : goal.invariant-loop-hand
invariant-loop-hand g l = Begins (owned l.hands.items) g.D.Deques.all

abbrev pub decreases-loop-hand : goal.decreases-loop-hand
decreases-loop-hand g l = length l.hands.items
