-- The search for a certificate: atoms are eliminated from the greatest, the multipliers carried along.
use Rattle.std.specs.Prelude.{ℕ, zero, suc, ◌+◌, ◌*◌, ◌/◌, ◌%◌, ◌^◌, Bool, true, false, cond, ◌&&◌, nat_lt, ℤ, pos, int_lt, unsigned_abs, List, [], ◌∷◌, ◌++◌, map, take, Option, Some, None}
use Rattle.ap_value.specs.Values.{int_eq}
use Rattle.ap_term.specs.declared.term.Term.{Term}
use Rattle.ap_term.specs.Equal.{term_eq}
use Rattle.ap_term.specs.Order.{term_less}
use Rattle.ap_poly.specs.Polynomials.{Parts, Polynomial, and_then, add, scale}

-- a polynomial, and how often each given one stands in it
pub record Row : Type 0 where
  pub poly : Polynomial
  pub by : List ℕ

abbrev pub behind : Row → Row
behind r = record { poly = r.poly; by = 0 ∷ r.by }

-- each given polynomial, once itself
abbrev pub rows_of : List Polynomial → List Row
rows_of [] = []
rows_of (p ∷ ps) = record { poly = p; by = 1 ∷ map (λ q. 0) ps } ∷ map behind (rows_of ps)

abbrev pub coefficient_in : Term → Parts → ℤ
coefficient_in x [] = pos 0
coefficient_in x (p ∷ ps) = cond (term_eq x p.0) p.1 (coefficient_in x ps)

abbrev pub coefficient : Term → Row → ℤ
coefficient x r = coefficient_in x r.poly.parts

abbrev pub gcd_by : ℕ → ℕ → ℕ → ℕ
gcd_by zero a b = a
gcd_by (suc n) a zero = a
gcd_by (suc n) a (suc b) = gcd_by n (suc b) (a % suc b)

-- the greatest common divisor: each step makes b less, so b steps are enough
abbrev pub gcd : ℕ → ℕ → ℕ
gcd a b = gcd_by b a b

-- a multiplier of 64 bits, and none where it is another
abbrev pub multiplier : ℕ → Option ℕ
multiplier n = cond (nat_lt n (2 ^ 64)) (Some n) None

-- k times the first multipliers and l times the second
abbrev pub mixed : ℕ → List ℕ → ℕ → List ℕ → Option (List ℕ)
mixed k (x ∷ xs) l (y ∷ ys) =
    and_then (multiplier (k * x)) (λ a. and_then (multiplier (l * y)) (λ b. and_then (multiplier (a + b)) (λ c.
    and_then (mixed k xs l ys) (λ cs. Some (c ∷ cs)))))
mixed k xs l ys = Some []

-- k times p and l times q; none where something leaves its type
abbrev pub combined : ℕ → Row → ℕ → Row → Option Row
combined k p l q =
    and_then (multiplier k) (λ k. and_then (multiplier l) (λ l.
    and_then (scale k p.poly) (λ a. and_then (scale l q.poly) (λ b. and_then (add a b) (λ c.
    and_then (mixed k p.by l q.by) (λ by. Some (record { poly = c; by = by })))))))

-- of coefficients c of p and d of q the least multiples in which they meet
abbrev pub meeting : ℕ → Row → ℕ → Row → Option Row
meeting c p d q = combined (d / gcd c d) p (c / gcd c d) q

abbrev pub or_less : Option Row → List Row → List Row
or_less None rs = rs
or_less (Some r) rs = r ∷ rs

module _ (x : Term) where
  abbrev pub without : List Row → List Row
  without [] = []
  without (p ∷ ps) = cond (int_eq (coefficient x p) (pos 0)) (p ∷ without ps) (without ps)

  abbrev pub with_negative : Row → List Row → List Row
  with_negative p [] = []
  with_negative p (q ∷ qs) =
      cond (int_lt (coefficient x q) (pos 0))
      (or_less (meeting (unsigned_abs (coefficient x p)) p (unsigned_abs (coefficient x q)) q) (with_negative p qs))
      (with_negative p qs)

  abbrev pub with_positive : List Row → List Row → List Row
  with_positive [] qs = []
  with_positive (p ∷ ps) qs = cond (int_lt (pos 0) (coefficient x p)) (with_negative p qs ++ with_positive ps qs) (with_positive ps qs)

  -- those without the atom, then those of each positive and each negative one; the first 64 are kept
  abbrev pub eliminated : List Row → List Row
  eliminated rs = take 64 (without rs ++ with_positive rs rs)

abbrev pub with_atom : Term → List Term → List Term
with_atom t [] = t ∷ []
with_atom t (u ∷ us) = cond (term_eq t u) (u ∷ us) (cond (term_less t u) (t ∷ u ∷ us) (u ∷ with_atom t us))

abbrev pub with_atoms : Parts → List Term → List Term
with_atoms [] us = us
with_atoms (p ∷ ps) us = with_atom p.0 (with_atoms ps us)

-- the atoms of the polynomials, rising in the order of terms
abbrev pub atoms_of : List Polynomial → List Term
atoms_of [] = []
atoms_of (p ∷ ps) = with_atoms p.parts (atoms_of ps)

-- the greatest atom, the last one, is eliminated first
abbrev pub left_after : List Term → List Row → List Row
left_after [] rs = rs
left_after (x ∷ xs) rs = eliminated x (left_after xs rs)

abbrev pub no_parts : Parts → Bool
no_parts [] = true
no_parts (p ∷ ps) = false

-- the polynomial is a constant, and a negative one
abbrev pub is_negative : Polynomial → Bool
is_negative p = no_parts p.parts && int_lt p.constant (pos 0)

abbrev pub first_negative : List Row → Option (List ℕ)
first_negative [] = None
first_negative (r ∷ rs) = cond (is_negative r.poly) (Some r.by) (first_negative rs)

-- the first certificate, or none
abbrev pub lin : List Polynomial → Option (List ℕ)
lin ps = first_negative (left_after (atoms_of ps) (rows_of ps))
