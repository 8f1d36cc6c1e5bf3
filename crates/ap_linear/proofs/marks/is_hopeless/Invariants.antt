use Rattle.std.proofs.Common.{◌≡◌, ℕ, true, None}
use Rattle.ap_poly.specs.Elimination.{lin}
use Rattle.ap_linear.specs.Marks.{marks_hopeless}
use Rattle.ap_linear.proofs.marks.is_hopeless.Given as goal

-- what is seen of the marks that are left is so of the polynomials, after any number of rounds
abbrev pub invariant-loop-left : goal.invariant-loop-left
invariant-loop-left l = (n : ℕ) → marks_hopeless n l.marks ≡ true → lin l.polys ≡ None

abbrev pub decreases-loop-left : goal.decreases-loop-left
decreases-loop-left l = l.left
