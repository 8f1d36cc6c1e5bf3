-- Which call of a clause becomes a new variable, and which variable.
use Rattle.std.specs.Prelude.{ℕ, Bool, false, cond, not, ◌&&◌, ◌||◌, nat_le, List, [], ◌∷◌, map, Option, Some, None, is_some}
use Rattle.ap_term.specs.declared.term.Term.{Term, out-Term}
use Rattle.ap_term.specs.declared.term.Term.TheOpen.{Term-F}
use Rattle.ap_term.specs.declared.term.Clause.{Clause}
use Rattle.ap_term.specs.Terms.{term_size}
use Rattle.ap_world.specs.declared.entry.Function.{Function}
use Rattle.ap_world.specs.declared.entry.Mask.{Mask}
use Rattle.ap_world.specs.Meaning.{Defs}
use Rattle.ap_world.specs.Shapes.{Shape, negation, shape_of}
use Rattle.ap_world.specs.Types.{truths}
use Rattle.ap_world.specs.Typing.{types}
use Rattle.ap_world.specs.World.{Shown, function_of}
use Rattle.ap_kernel.specs.declared.reductions.Inference.{Inference}
use Rattle.ap_kernel.specs.Generalising.{lies_within, generalised}
use Rattle.ap_kernel.specs.Linear.{is_comparison}
use Rattle.ap_kernel.specs.Solving.{any_true}
use Rattle.ap_kernel.specs.Splits.{and_then}
use Rattle.ap_kernel.specs.Swapping.{is_part}
use Rattle.ap_induct.specs.Choosing.{calls_among}
use Rattle.ap_elim.specs.Naming.{new_name}

-- a call of a recursive function
abbrev pub has_measure : Option Function → Bool
has_measure None = false
has_measure (Some g) = is_some g.measure

abbrev pub calls_recursive : Defs → Term-F Term → Bool
calls_recursive D (Term-F.Call f ts) = has_measure (D f)
calls_recursive D y = false

-- a term is a part of two literals
abbrev pub is_in_two : Term → List Term → Bool
is_in_two t [] = false
is_in_two t (u ∷ us) = cond (is_part t u) (any_true (map (is_part t) us)) (is_in_two t us)

-- it is a part of both sides of an `equal` or a `<`
abbrev pub arguments_of : Term-F Term → List Term
arguments_of (Term-F.Call f us) = us
arguments_of y = []

abbrev pub both_have : Term → List Term → Bool
both_have t (a ∷ b ∷ []) = is_part t a && is_part t b
both_have t us = false

abbrev pub is_in_sides : Term → Term → Bool
is_in_sides t u = is_comparison u && both_have t (arguments_of (out-Term u))

-- which is a literal, negated or not
abbrev pub atom_of : Shape Term → Term → Term
atom_of (negation a) u = a
atom_of y u = u

abbrev pub is_in_both : Term → Term → Bool
is_in_both t u = is_in_sides t (atom_of (shape_of u) u)

abbrev pub is_shared : Term → List Term → Bool
is_shared t ts = is_in_two t ts || any_true (map (is_in_both t) ts)

-- the mask of a term under no facts, and that a mask isn't within {t, nil}
abbrev pub mask_in : Shown → Term → Mask
mask_in w t = record { 0 = types w [] t }

abbrev pub isnt_boolean : Mask → Bool
isnt_boolean m = not (lies_within m.0 truths.0)

-- the calls that may become a variable
abbrev pub may_generalise : Shown → List Term → Term → Bool
may_generalise w ts t = calls_recursive (function_of w.entries) (out-Term t) && (is_shared t ts && isnt_boolean (mask_in w t))

-- of those that pass a test one with fewest nodes, the first of these
abbrev pub smaller : Term → Option Term → Option Term
smaller t None = Some t
smaller t (Some u) = cond (nat_le (term_size t) (term_size u)) (Some t) (Some u)

abbrev pub smallest : (Term → Bool) → List Term → Option Term
smallest test [] = None
smallest test (t ∷ ts) = cond (test t) (smaller t (smallest test ts)) (smallest test ts)

abbrev pub chosen : Shown → List Term → Option Term
chosen w ts = smallest (may_generalise w ts) (calls_among ts)

-- the first letter of its function's name, V where that isn't a letter
abbrev pub is_letter : ℕ → Bool
is_letter b = (nat_le 65 b && nat_le b 90) || (nat_le 97 b && nat_le b 122)

abbrev pub first_letter : List ℕ → ℕ
first_letter [] = 86
first_letter (b ∷ bs) = cond (is_letter b) b 86

abbrev pub letter_of : Term-F Term → ℕ
letter_of (Term-F.Call f ts) = first_letter f.name
letter_of y = 86

-- the variable is that letter with a number; and the clause that is left
abbrev pub generalised_at : Shown → Clause → Term → Option Inference
generalised_at w c t = and_then (new_name (letter_of (out-Term t) ∷ []) c.0) (λ v. Some (generalised c t v (mask_in w t)))

abbrev pub generalize_made : Shown → Clause → Option Inference
generalize_made w c = and_then (chosen w c.0) (generalised_at w c)
