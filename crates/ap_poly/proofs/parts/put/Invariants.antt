use Rattle.std.proofs.Common.{◌≡◌, length}
use Rattle.ap_poly.specs.Polynomials.{put}
use Rattle.ap_poly.proofs.Walks.{onto}
use Rattle.ap_poly.proofs.parts.put.Given as goal

-- the parts so far, and what is left with the multiple put into it
abbrev pub invariant-loop-left : goal.invariant-loop-left
invariant-loop-left l = onto l.out (put l.t l.k l.left) ≡ put l.t l.k l.parts

abbrev pub decreases-loop-left : goal.decreases-loop-left
decreases-loop-left l = length l.left
