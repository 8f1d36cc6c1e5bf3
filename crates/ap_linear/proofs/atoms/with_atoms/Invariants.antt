use Rattle.std.proofs.Common.{◌≡◌, ◌≤◌, length, take}
use Rattle.ap_poly.specs.Elimination.{with_atoms}
use Rattle.ap_linear.proofs.atoms.with_atoms.Given as goal

-- what is left is added to what was
abbrev pub invariant-loop-left : goal.invariant-loop-left
invariant-loop-left l = record {
  within : l.left ≤ length l.parts;
  atoms : with_atoms (take l.left l.parts) l.out ≡ with_atoms l.parts l.fn.atoms;
}

abbrev pub decreases-loop-left : goal.decreases-loop-left
decreases-loop-left l = l.left
