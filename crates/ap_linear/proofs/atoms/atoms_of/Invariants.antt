use Rattle.std.proofs.Common.{◌≡◌, ◌≤◌, length, take}
use Rattle.ap_poly.specs.Elimination.{atoms_of}
use Rattle.ap_linear.proofs.Walks.{atoms_onto}
use Rattle.ap_linear.proofs.atoms.atoms_of.Given as goal

-- what is left is added to what was
abbrev pub invariant-loop-left : goal.invariant-loop-left
invariant-loop-left l = record {
  within : l.left ≤ length l.polys;
  atoms : atoms_onto (take l.left l.polys) l.out ≡ atoms_of l.polys;
}

abbrev pub decreases-loop-left : goal.decreases-loop-left
decreases-loop-left l = l.left
