-- What the rewriter adds to the polynomials of literals: the atoms of a list, and what their masks say of them.
use Rattle.std.specs.Prelude.{◌≡◌, ℕ, Bool, true, cond, nat_eq, bit_and, ℤ, pos, negsuc, List, [], ◌∷◌, ◌++◌}
use Rattle.ap_list.specs.Lists.{Each, is_among}
use Rattle.ap_term.specs.declared.term.Term.{Term}
use Rattle.ap_term.specs.Equal.{term_eq}
use Rattle.ap_world.specs.Kinds.{without}
use Rattle.ap_world.specs.Meaning.{Defs}
use Rattle.ap_world.specs.Sound.{known}
use Rattle.ap_world.specs.Types.{positive_bit, negative_bit}
use Rattle.ap_poly.specs.Polynomials.{Parts, Polynomial}

-- the atoms in order of first occurrence, after those that stand already
abbrev pub seen_in : Parts → List Term → List Term
seen_in [] us = us
seen_in (p ∷ ps) us = seen_in ps (cond (is_among term_eq p.0 us) us (us ++ p.0 ∷ []))

abbrev pub seen_after : List Polynomial → List Term → List Term
seen_after [] us = us
seen_after (p ∷ ps) us = seen_after ps (seen_in p.parts us)

abbrev pub first_atoms : List Polynomial → List Term
first_atoms ps = seen_after ps []

-- none of these types is in the mask
abbrev pub lacks : ℕ → ℕ → Bool
lacks m types = nat_eq (bit_and m types) 0

abbrev pub one_part : ℤ → Term → ℤ → List Polynomial
one_part n x k = record { constant = n; parts = (x, k) ∷ [] } ∷ []

-- by the first that fits: x - 1 within {positive}, x without negative, -x - 1 within {negative}, -x without positive
abbrev pub bound : Term → ℕ → List Polynomial
bound x m =
    cond (lacks m (without positive_bit)) (one_part (negsuc 0) x (pos 1))
    (cond (lacks m negative_bit) (one_part (pos 0) x (pos 1))
    (cond (lacks m (without negative_bit)) (one_part (negsuc 0) x (negsuc 0))
    (cond (lacks m positive_bit) (one_part (pos 0) x (negsuc 0)) [])))

-- each atom is a term of the world
abbrev pub PolyKnown : Defs → Polynomial → Type 0
PolyKnown D p = Each (λ (q : Term × ℤ). known D q.0 ≡ true) p.parts
