use Rattle.std.proofs.Common.{◌≡◌, ◌++◌, length}
use Rattle.ap_poly.specs.Elimination.{with_atom}
use Rattle.ap_linear.proofs.atoms.with_new_atom.Given as goal

-- the atoms so far, and those that are left with the new one
abbrev pub invariant-loop-left : goal.invariant-loop-left
invariant-loop-left l = l.out ++ with_atom l.t l.left ≡ with_atom l.t l.atoms

abbrev pub decreases-loop-left : goal.decreases-loop-left
decreases-loop-left l = length l.left
