-- Splitting a clause at an `if` within one of its literals.
use Rattle.std.specs.Prelude.{ℕ, List, [], ◌∷◌, Option, Some, None, slice_get}
use Rattle.ap_term.specs.declared.term.Term.{Term, out-Term, Call}
use Rattle.ap_term.specs.declared.term.Term.TheOpen.{Term-F}
use Rattle.ap_term.specs.declared.term.Clause.{Clause}
use Rattle.ap_world.specs.Clauses.{negate}
use Rattle.ap_world.specs.Shapes.{Shape, choice, shape_of}
use Rattle.ap_kernel.specs.declared.reductions.Inference.{Inference}
use Rattle.ap_kernel.specs.Inferences.{put_at}

-- what there is, handed on
abbrev pub and_then : {A B : Type 0} → Option A → (A → Option B) → Option B
and_then None k = None
and_then (Some a) k = k a

-- the argument of a call at a place
abbrev pub argument : Term-F Term → ℕ → Option Term
argument (Term-F.Call f ts) i = slice_get ts i
argument y i = None

-- the part that the places of arguments lead to, the outermost first
abbrev pub part_at : List ℕ → Term → Option Term
part_at [] u = Some u
part_at (i ∷ is) u = and_then (argument (out-Term u) i) (part_at is)

-- a call with another argument at a place
abbrev pub with_argument : Term-F Term → ℕ → Term → Option Term
with_argument (Term-F.Call f ts) i a = Some (Call f (put_at i (a ∷ []) ts))
with_argument y i a = None

-- a term with another part there
abbrev pub with_part : List ℕ → Term → Term → Option Term
with_part [] r u = Some r
with_part (i ∷ is) r u = and_then (and_then (argument (out-Term u) i) (with_part is r)) (with_argument (out-Term u) i)

-- the parts of an `if`
abbrev pub parts_of : Shape Term → Option (Term × Term × Term)
parts_of (choice a b c) = Some (a, b, c)
parts_of y = None

-- the parts of the `if` that is there in a term, and in a literal of a clause
abbrev pub choice_at : List ℕ → Term → Option (Term × Term × Term)
choice_at is u = and_then (part_at is u) (λ v. parts_of (shape_of v))

abbrev pub choice_in : Clause → ℕ → List ℕ → Option (Term × Term × Term)
choice_in c i is = and_then (slice_get c.0 i) (choice_at is)

-- the clause with the test's negation before the literal and the first branch in the place of the `if`,
-- and the clause with the test before it and the second branch there
abbrev pub cases_of : Clause → ℕ → Term → Term → Term → Inference
cases_of c i a v w = record { from = c; to = record { 0 = put_at i (negate a ∷ v ∷ []) c.0 } ∷ record { 0 = put_at i (a ∷ w ∷ []) c.0 } ∷ [] }

abbrev pub literal_split : Clause → ℕ → List ℕ → Term → Term × Term × Term → Option Inference
literal_split c i is u p = and_then (with_part is p.1 u) (λ v. and_then (with_part is p.2 u) (λ w. Some (cases_of c i p.0 v w)))

abbrev pub split_made : Clause → ℕ → List ℕ → Option Inference
split_made c i is = and_then (slice_get c.0 i) (λ u. and_then (choice_at is u) (literal_split c i is u))
