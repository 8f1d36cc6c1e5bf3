use Rattle.std.proofs.Common.{◌≡◌, take}
use Rattle.ap_speculate.specs.Sides.{owned}
use Rattle.ap_speculate.proofs.gathering.in_order.Given as goal

-- the first so many are there
abbrev pub invariant-loop-at : goal.invariant-loop-at
invariant-loop-at g l = owned l.hands.items ≡ take l.at g.D.Deques.all
