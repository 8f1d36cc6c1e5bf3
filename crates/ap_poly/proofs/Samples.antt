-- Small cases, computed. The test of equality on terms doesn't compute, so what it says of the atoms is handed in.
use Rattle.std.proofs.Common.{◌≡◌, ℤ, pos, negsuc, true, false, [], ◌∷◌, Some, None, refl}
use Rattle.ap_term.specs.declared.term.Term.{Term}
use Rattle.ap_term.specs.Equal.{term_eq}
use Rattle.ap_term.specs.Order.{term_less}
use Rattle.ap_world.specs.Units.{is_narrow}
use Rattle.ap_poly.specs.Polynomials.{Polynomial, Parts, add}
use Rattle.ap_poly.specs.Elimination.{gcd, lin, mixed}

divisor : gcd 12 18 ≡ 6
divisor = refl

big_divisor : gcd (170141183460469231731687303715884105726) 6 ≡ 6
big_divisor = refl

multipliers : mixed 2 (1 ∷ 0 ∷ []) 3 (0 ∷ 1 ∷ []) ≡ Some (2 ∷ 3 ∷ [])
multipliers = refl

too_wide : add (record { constant = pos 170141183460469231731687303715884105727; parts = [] }) (record { constant = pos 1; parts = [] }) ≡ None
unfolding is_narrow
too_wide = refl

abbrev poly : ℤ → Parts → Polynomial
poly n ps = record { constant = n; parts = ps }

-- x - 1 and -x
refuted : (x : Term) → term_eq x x ≡ true → lin (poly (negsuc 0) ((x, pos 1) ∷ []) ∷ poly (pos 0) ((x, negsuc 0) ∷ []) ∷ []) ≡ Some (1 ∷ 1 ∷ [])
unfolding is_narrow
refuted x e = simp e

-- x and -x: a sum of 0 is no certificate
none : (x : Term) → term_eq x x ≡ true → lin (poly (pos 0) ((x, pos 1) ∷ []) ∷ poly (pos 0) ((x, negsuc 0) ∷ []) ∷ []) ≡ None
unfolding is_narrow
none x e = simp e

-- 4 y - 2 x, 5, 3 x - 6 y - 1: the least multiples in which y vanishes are 3 and 2, and x vanishes with it
more : (x y : Term) → term_eq x x ≡ true → term_eq y y ≡ true → term_eq x y ≡ false → term_eq y x ≡ false → term_less x y ≡ true → term_less y x ≡ false
    → lin (poly (pos 0) ((x, negsuc 1) ∷ (y, pos 4) ∷ []) ∷ poly (pos 5) [] ∷ poly (negsuc 0) ((x, pos 3) ∷ (y, negsuc 5) ∷ []) ∷ []) ≡ Some (3 ∷ 0 ∷ 2 ∷ [])
unfolding is_narrow
more x y xx yy xy yx l m = simp (xx, yy, xy, yx, l, m)
