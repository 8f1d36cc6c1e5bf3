-- Cross-fertilization: a hypothesis that is an equation is used in one side of another equation, and dropped.
use Rattle.std.specs.Prelude.{ℕ, Bool, true, false, cond, ◌||◌, [], ◌∷◌, Option, Some, None, slice_get}
use Rattle.ap_term.specs.declared.term.Term.{Term}
use Rattle.ap_term.specs.declared.term.Clause.{Clause}
use Rattle.ap_world.specs.Shapes.{Shape, constant, negation, equation, shape_of}
use Rattle.ap_kernel.specs.declared.reductions.Inference.{Inference}
use Rattle.ap_kernel.specs.Equations.{equal_of}
use Rattle.ap_kernel.specs.Inferences.{put_at, others, to_one}
use Rattle.ap_kernel.specs.Splits.{and_then}
use Rattle.ap_kernel.specs.Swapping.{swapped, is_part}

abbrev pub is_constant_shape : Shape Term → Bool
is_constant_shape (constant v) = true
is_constant_shape y = false

-- the sides of (equal a b), and of (not (equal a b)) where neither is a constant
abbrev pub sides_of : Shape Term → Option (Term × Term)
sides_of (equation a b) = Some (a, b)
sides_of y = None

abbrev pub no_constants : Term × Term → Option (Term × Term)
no_constants p = cond (is_constant_shape (shape_of p.0) || is_constant_shape (shape_of p.1)) None (Some p)

abbrev pub negated_sides : Shape Term → Option (Term × Term)
negated_sides (negation a) = and_then (sides_of (shape_of a)) no_constants
negated_sides y = None

-- of (equal l r), with a for b in r, or else with b for a in l
abbrev pub side_replaced : Term × Term → Term × Term → Option Term
side_replaced p q =
    cond (is_part p.1 q.1) (Some (equal_of q.0 (swapped ((p.1, p.0) ∷ []) q.1)))
    (cond (is_part p.0 q.0) (Some (equal_of (swapped ((p.0, p.1) ∷ []) q.0) q.1)) None)

abbrev pub literal_fertilised : Term × Term → Term → Option Term
literal_fertilised p u = and_then (sides_of (shape_of u)) (side_replaced p)

-- the literal at the second place becomes this term, and the one at the first place is left out
abbrev pub fertilised : Clause → ℕ → ℕ → Term → Inference
fertilised c i j u = to_one c (others i (put_at j (u ∷ []) c.0))

-- the literal at the first place, a negated equation, is used in the one at the second: in another one, since that is an equation
abbrev pub fertilised_by : Clause → ℕ → ℕ → Term × Term → Option Inference
fertilised_by c i j p = and_then (and_then (slice_get c.0 j) (literal_fertilised p)) (λ u. Some (fertilised c i j u))

abbrev pub fertilise_made : Clause → ℕ → ℕ → Option Inference
fertilise_made c i j = and_then (and_then (slice_get c.0 i) (λ u. negated_sides (shape_of u))) (fertilised_by c i j)
