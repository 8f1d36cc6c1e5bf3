-- The polynomials of a literal.
use Rattle.std.specs.Prelude.{Bool, true, false, ℤ, pos, negsuc, ◌+ℤ◌, ◌*ℤ◌, neg_ℤ, List, [], ◌∷◌, map, Option, Some, None, unwrap_or}
use Rattle.ap_value.specs.Values.{val_of}
use Rattle.ap_term.specs.declared.term.Term.{Term, para-Term, out-Term, Var, Call}
use Rattle.ap_term.specs.declared.term.Term.TheOpen.{Term-F}
use Rattle.ap_world.specs.declared.primitive.Primitive.{Primitive as Prim}
use Rattle.ap_world.specs.declared.primitive.Primitive.TheVariants as prim
use Rattle.ap_world.specs.Primitives.{prim_of, int_of}
use Rattle.ap_poly.specs.Polynomials.{Polynomial, and_then, narrow, put}

-- a term times an integer, added to a polynomial; none where a number on the way leaves 128 bits
abbrev pub Into : Type 0
Into = ℤ → Polynomial → Option Polynomial

abbrev pub add_constant : ℤ → Into
add_constant n k p = and_then (narrow (k *ℤ n)) (λ m. and_then (narrow (p.constant +ℤ m)) (λ c. Some (record { constant = c; parts = p.parts })))

abbrev pub add_atom : Term → Into
add_atom u k p = and_then (put u k p.parts) (λ ps. Some (record { constant = p.constant; parts = ps }))

-- a product is taken apart where its left side is a constant
abbrev pub add_product : Term-F Term → Into → Into → Into
add_product (Term-F.Quote v) b atom k p = and_then (narrow (k *ℤ int_of (val_of v))) (λ m. b m p)
add_product y b atom k p = atom k p

abbrev pub add_call : Option Prim → List (Term × Into) → Into → Into
add_call (Some prim.Plus) (a ∷ b ∷ []) atom k p = and_then (a.1 k p) (b.1 k)
add_call (Some prim.Minus) (a ∷ []) atom k p = and_then (narrow (neg_ℤ k)) (λ m. a.1 m p)
add_call (Some prim.Times) (a ∷ b ∷ []) atom k p = add_product (out-Term a.0) b.1 atom k p
add_call o ps atom k p = atom k p

abbrev pub into_step : Term-F (Term × Into) → Into
into_step (Term-F.Var x) = add_atom (Var x)
into_step (Term-F.Quote v) = add_constant (int_of (val_of v))
into_step (Term-F.Call f ps) = add_call (prim_of f) ps (add_atom (Call f (map (λ p. p.0) ps)))

abbrev pub into : Term → Into
into = para-Term Into into_step

-- each term with what adds it
abbrev pub paired : List Term → List (Term × Into)
paired ts = map (λ u. (u, into u)) ts

-- a - b + n
abbrev pub difference : Term → Term → ℤ → Option Polynomial
difference a b n =
    and_then (into a (pos 1) (record { constant = pos 0; parts = [] })) (λ p.
    and_then (into b (negsuc 0) p) (λ q. add_constant n (pos 1) q))

-- (< a b) gives b - a - 1, its negation a - b
abbrev pub less_polys : Term → Term → Bool → Option (List Polynomial)
less_polys a b true = and_then (difference b a (negsuc 0)) (λ p. Some (p ∷ []))
less_polys a b false = and_then (difference a b (pos 0)) (λ p. Some (p ∷ []))

-- (equal a b) gives both differences
abbrev pub equal_polys : Term → Term → Option (List Polynomial)
equal_polys a b = and_then (difference a b (pos 0)) (λ p. and_then (difference b a (pos 0)) (λ q. Some (p ∷ q ∷ [])))

abbrev pub polys_by : Option Prim → List Term → Bool → Option (List Polynomial)
polys_by (Some prim.Less) (a ∷ b ∷ []) s = less_polys a b s
polys_by (Some prim.Equal) (a ∷ b ∷ []) true = equal_polys a b
polys_by o ts s = None

abbrev pub polys_in : Term-F Term → Bool → Option (List Polynomial)
polys_in (Term-F.Call f ts) s = polys_by (prim_of f) ts s
polys_in y s = None

-- another literal gives none, and so does one of which a number leaves 128 bits
abbrev pub of_literal : Term → Bool → List Polynomial
of_literal u s = unwrap_or (polys_in (out-Term u) s) []
