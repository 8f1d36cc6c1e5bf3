-- The steps of the search that the definition doesn't name: multipliers of one place, and sums of two rows.
use Rattle.std.specs.Prelude.{ℕ, zero, suc, ◌+◌, ◌*◌, Bool, true, false, cond, List, [], ◌∷◌, ◌++◌, Option, Some}
use Rattle.ap_term.specs.declared.term.Term.{Term}
use Rattle.ap_term.specs.Equal.{term_eq}
use Rattle.ap_term.specs.Order.{term_less}
use Rattle.ap_poly.specs.Polynomials.{and_then, add, scale}
use Rattle.ap_poly.specs.Elimination.{Row, multiplier, mixed}

abbrev pub zeros : ℕ → List ℕ
zeros zero = []
zeros (suc n) = 0 ∷ zeros n

-- 1, with so many zeros before and after it
abbrev pub unit : ℕ → ℕ → List ℕ
unit before after = zeros before ++ 1 ∷ zeros after

-- k times x and l times y
abbrev pub mix : ℕ → ℕ → ℕ → ℕ → Option ℕ
mix k x l y = and_then (multiplier (k * x)) (λ a. and_then (multiplier (l * y)) (λ b. multiplier (a + b)))

-- k times p and l times q, of multipliers
abbrev pub summed : ℕ → Row → ℕ → Row → Option Row
summed k p l q =
    and_then (scale k p.poly) (λ a. and_then (scale l q.poly) (λ b. and_then (add a b) (λ c.
    and_then (mixed k p.by l q.by) (λ by. Some (record { poly = c; by = by })))))

-- the atom stands before one that it comes before
abbrev pub is_placed : Term → List Term → Bool
is_placed t [] = false
is_placed t (u ∷ us) = cond (term_eq t u) true (cond (term_less t u) false (is_placed t us))
