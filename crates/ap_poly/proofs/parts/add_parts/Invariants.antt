use Rattle.std.proofs.Common.{◌≡◌, ◌≤◌, length, take}
use Rattle.ap_poly.specs.Polynomials.{add_parts}
use Rattle.ap_poly.proofs.parts.add_parts.Given as goal

-- what is left is added to what was
abbrev pub invariant-loop-left : goal.invariant-loop-left
invariant-loop-left l = record {
  within : l.left ≤ length l.a;
  added : add_parts (take l.left l.a) l.sum ≡ add_parts l.a l.b;
}

abbrev pub decreases-loop-left : goal.decreases-loop-left
decreases-loop-left l = l.left
