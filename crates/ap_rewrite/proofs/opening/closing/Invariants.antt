use Rattle.std.proofs.Common.{◌≡◌, ◌∷◌, take}
use Rattle.ap_rewrite.proofs.opening.closing.Given as goal

abbrev pub invariant-loop-g : goal.invariant-loop-g
invariant-loop-g l = l.out ≡ l.f ∷ take l.g-index l.closed
