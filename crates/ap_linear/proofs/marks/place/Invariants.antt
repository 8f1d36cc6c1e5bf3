use Rattle.std.proofs.Common.{◌≡◌, ◌+◌, length}
use Rattle.ap_linear.specs.Marks.{place}
use Rattle.ap_linear.proofs.marks.place.Given as goal

-- so many are passed, and the place among the others is what is left
abbrev pub invariant-loop-left : goal.invariant-loop-left
invariant-loop-left l = record {
  count : l.count + length l.left ≡ length l.atoms;
  place : l.count + place l.left l.t ≡ place l.atoms l.t;
}

abbrev pub decreases-loop-left : goal.decreases-loop-left
decreases-loop-left l = length l.left
