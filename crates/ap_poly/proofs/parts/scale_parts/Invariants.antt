use Rattle.std.proofs.Common.{◌≡◌, length}
use Rattle.ap_poly.specs.Polynomials.{scale_parts}
use Rattle.ap_poly.proofs.Walks.{onto}
use Rattle.ap_poly.proofs.parts.scale_parts.Given as goal

-- the multiples so far, and those of what is left
abbrev pub invariant-loop-left : goal.invariant-loop-left
invariant-loop-left l = onto l.out (scale_parts l.k l.left) ≡ scale_parts l.k l.parts

abbrev pub decreases-loop-left : goal.decreases-loop-left
decreases-loop-left l = length l.left
