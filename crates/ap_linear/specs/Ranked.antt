-- The search over ranks: a row has the coefficients of atoms by their places in the order of terms, 0 where one isn't there.
use Rattle.std.specs.Prelude.{◌≡◌, ℕ, zero, suc, ◌/◌, Bool, true, false, cond, ◌&&◌, ℤ, pos, ◌+ℤ◌, ◌*ℤ◌, int_lt, unsigned_abs, List, [], ◌∷◌, ◌++◌, take, get_or, Option, Some, None}
use Rattle.ap_list.specs.Lists.{Each, AnyOf}
use Rattle.ap_value.specs.Values.{int_eq}
use Rattle.ap_term.specs.declared.term.Term.{Term}
use Rattle.ap_term.specs.Equal.{term_eq}
use Rattle.ap_term.specs.Order.{term_less}
use Rattle.ap_poly.specs.Polynomials.{Parts, Polynomial, and_then, narrow, with_part}
use Rattle.ap_poly.specs.Elimination.{Row, gcd, multiplier, mixed}
use Rattle.ap_linear.specs.declared.rows.Ranked.{Ranked}

-- a term comes before another, and each before all that stand behind it
abbrev pub Above : Term → Term → Type 0
Above t u = term_less t u ≡ true

abbrev pub Rising : List Term → Type 0
Rising [] = Unit {0}
Rising (u ∷ us) = Each (Above u) us × Rising us

-- the atom of each part is among the terms, and so of each polynomial
abbrev pub Listed : List Term → Parts → Type 0
Listed us ps = Each (λ (q : Term × ℤ). AnyOf (λ x. x ≡ q.0) us) ps

abbrev pub AllListed : List Term → List Polynomial → Type 0
AllListed us ps = Each (λ (p : Polynomial). Listed us p.parts) ps

-- what a list begins with, 0 where nothing is left, and the rest
abbrev pub head : List ℤ → ℤ
head [] = pos 0
head (c ∷ cs) = c

abbrev pub tail : List ℤ → List ℤ
tail [] = []
tail (c ∷ cs) = cs

-- the parts that coefficients stand for
abbrev pub parts_of : List Term → List ℤ → Parts
parts_of [] cs = []
parts_of (u ∷ us) cs = with_part u (head cs) (parts_of us (tail cs))

-- the row that a ranked one stands for
abbrev pub row_in : List Term → Ranked → Row
row_in us r = record { poly = record { constant = r.constant; parts = parts_of us r.coefficients }; by = r.by }

-- a sum, of which 0 is no side
abbrev pub sum_of : ℤ → ℤ → Option ℤ
sum_of x y = cond (int_eq x (pos 0)) (Some y) (cond (int_eq y (pos 0)) (Some x) (narrow (x +ℤ y)))

-- a multiple, of which 0 stays; none where it leaves 128 bits
abbrev pub times : ℕ → ℤ → Option ℤ
times k a = cond (int_eq a (pos 0)) (Some (pos 0)) (narrow (pos k *ℤ a))

-- k times the one and l times the other
abbrev pub sum_of_two : ℕ → ℤ → ℕ → ℤ → Option ℤ
sum_of_two k a l b = and_then (times k a) (λ x. and_then (times l b) (sum_of x))

abbrev pub sums_of : ℕ → ℕ → List ℤ → ℕ → List ℤ → Option (List ℤ)
sums_of zero k xs l ys = Some []
sums_of (suc n) k xs l ys = and_then (sum_of_two k (head xs) l (head ys)) (λ c. and_then (sums_of n k (tail xs) l (tail ys)) (λ cs. Some (c ∷ cs)))

abbrev pub constant_of : ℕ → ℤ → ℕ → ℤ → Option ℤ
constant_of k a l b = and_then (narrow (pos k *ℤ a)) (λ x. and_then (narrow (pos l *ℤ b)) (λ y. narrow (x +ℤ y)))

-- the coefficients of atoms, of parts in their order
abbrev pub stands_first : Term → Parts → Bool
stands_first u [] = false
stands_first u (p ∷ ps) = term_eq u p.0

abbrev pub first_if : Bool → Parts → ℤ
first_if true (p ∷ ps) = p.1
first_if here ps = pos 0

abbrev pub behind_if : Bool → Parts → Parts
behind_if true (p ∷ ps) = ps
behind_if here ps = ps

abbrev pub spread : List Term → Parts → List ℤ
spread [] ps = []
spread (u ∷ us) ps = first_if (stands_first u ps) ps ∷ spread us (behind_if (stands_first u ps) ps)

-- no coefficient of so many is another than 0
abbrev pub no_ranks : ℕ → List ℤ → Bool
no_ranks zero cs = true
no_ranks (suc n) cs = int_eq (head cs) (pos 0) && no_ranks n (tail cs)

abbrev pub or_fewer : Option Ranked → List Ranked → List Ranked
or_fewer None rs = rs
or_fewer (Some r) rs = r ∷ rs

-- the coefficient of the atom at a rank, and the rows in which it doesn't stand
abbrev pub coefficient : ℕ → Ranked → ℤ
coefficient i r = get_or r.coefficients i (pos 0)

abbrev pub without : ℕ → List Ranked → List Ranked
without i [] = []
without i (p ∷ ps) = cond (int_eq (coefficient i p) (pos 0)) (p ∷ without i ps) (without i ps)

-- of n atoms
module _ (n : ℕ) where
  abbrev pub summed : ℕ → Ranked → ℕ → Ranked → Option Ranked
  summed k p l q =
      and_then (constant_of k p.constant l q.constant) (λ c. and_then (sums_of n k p.coefficients l q.coefficients) (λ cs.
      and_then (mixed k p.by l q.by) (λ by. Some (record { constant = c; coefficients = cs; by = by }))))

  abbrev pub combined : ℕ → Ranked → ℕ → Ranked → Option Ranked
  combined k p l q = and_then (multiplier k) (λ k. and_then (multiplier l) (λ l. summed k p l q))

  abbrev pub meeting : ℕ → Ranked → ℕ → Ranked → Option Ranked
  meeting c p d q = combined (d / gcd c d) p (c / gcd c d) q

  abbrev pub is_negative : Ranked → Bool
  is_negative r = no_ranks n r.coefficients && int_lt r.constant (pos 0)

  abbrev pub first_negative : List Ranked → Option (List ℕ)
  first_negative [] = None
  first_negative (r ∷ rs) = cond (is_negative r) (Some r.by) (first_negative rs)

  -- of the atom at a rank
  module _ (i : ℕ) where
    abbrev pub with_negative : Ranked → List Ranked → List Ranked
    with_negative p [] = []
    with_negative p (q ∷ qs) =
        cond (int_lt (coefficient i q) (pos 0))
        (or_fewer (meeting (unsigned_abs (coefficient i p)) p (unsigned_abs (coefficient i q)) q) (with_negative p qs))
        (with_negative p qs)

    abbrev pub with_positive : List Ranked → List Ranked → List Ranked
    with_positive [] qs = []
    with_positive (p ∷ ps) qs = cond (int_lt (pos 0) (coefficient i p)) (with_negative p qs ++ with_positive ps qs) (with_positive ps qs)

    abbrev pub eliminated : List Ranked → List Ranked
    eliminated rs = take 64 (without i rs ++ with_positive rs rs)

  -- once the atoms below a rank are eliminated, the greatest first
  abbrev pub left_after : ℕ → List Ranked → List Ranked
  left_after zero rs = rs
  left_after (suc i) rs = left_after i (eliminated i rs)
