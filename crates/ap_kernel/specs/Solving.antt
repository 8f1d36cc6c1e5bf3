-- A clause with a variable solved by one of its literals, a negated equation.
use Rattle.std.specs.Prelude.{ℕ, Bool, false, cond, ◌||◌, List, [], ◌∷◌, map, Option, Some, None, slice_get}
use Rattle.ap_value.specs.declared.symbol.Symbol.{Symbol}
use Rattle.ap_value.specs.Values.{symbol_eq}
use Rattle.ap_term.specs.declared.term.Term.{Term, fold-Term, out-Term}
use Rattle.ap_term.specs.declared.term.Term.TheOpen.{Term-F}
use Rattle.ap_term.specs.declared.term.Clause.{Clause}
use Rattle.ap_term.specs.Terms.{subst_of}
pub use Rattle.ap_term.specs.Leaves.{any_true}
use Rattle.ap_world.specs.Shapes.{Shape, negation, equation, shape_of}
use Rattle.ap_kernel.specs.declared.reductions.Inference.{Inference}
use Rattle.ap_kernel.specs.Inferences.{others, to_one}
use Rattle.ap_kernel.specs.Splits.{and_then}

-- a variable occurs in a term
abbrev pub occurs_step : Symbol → Term-F Bool → Bool
occurs_step x (Term-F.Var y) = symbol_eq x y
occurs_step x (Term-F.Quote v) = false
occurs_step x (Term-F.Call f bs) = any_true bs

abbrev pub occurs : Symbol → Term → Bool
occurs x = fold-Term Bool (occurs_step x)

-- it occurs in one of some terms
abbrev pub occurs_in : Symbol → List Term → Bool
occurs_in x ts = any_true (map (occurs x) ts)

-- a side that is a variable is solved by the other side, where it doesn't occur in it
abbrev pub side_solved : Term-F Term → Term → Option (Symbol × Term)
side_solved (Term-F.Var x) u = cond (occurs x u) None (Some (x, u))
side_solved y u = None

-- the left side where it is solved, else the right one
abbrev pub left_first : Option (Symbol × Term) → Option (Symbol × Term) → Option (Symbol × Term)
left_first (Some p) o = Some p
left_first None o = o

abbrev pub sides_solved : Term → Term → Option (Symbol × Term)
sides_solved a b = left_first (side_solved (out-Term a) b) (side_solved (out-Term b) a)

abbrev pub equation_solved : Shape Term → Option (Symbol × Term)
equation_solved (equation a b) = sides_solved a b
equation_solved y = None

abbrev pub negated_solved : Shape Term → Option (Symbol × Term)
negated_solved (negation a) = equation_solved (shape_of a)
negated_solved y = None

-- the variable that a literal (not (equal a b)) solves, and what replaces it
abbrev pub solved_by : Term → Option (Symbol × Term)
solved_by u = negated_solved (shape_of u)

-- the variable replaced in the other literals
abbrev pub replaced_in : Clause → ℕ → Symbol × Term → Inference
replaced_in c i p = to_one c (map (subst_of (p ∷ [])) (others i c.0))

abbrev pub solved_made : Clause → ℕ → Option Inference
solved_made c i = and_then (and_then (slice_get c.0 i) solved_by) (λ p. Some (replaced_in c i p))
