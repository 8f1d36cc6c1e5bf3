-- The plain form of a clause, and when it holds by itself.
use Rattle.std.specs.Prelude.{Bool, true, false, cond, ◌||◌, List, [], ◌∷◌, ◌++◌, map}
use Rattle.ap_list.specs.Lists.{is_among}
use Rattle.ap_value.specs.Values.{val_of, value_eq}
use Rattle.ap_term.specs.declared.term.Term.{Term}
use Rattle.ap_term.specs.declared.term.Clause.{Clause}
use Rattle.ap_term.specs.Equal.{term_eq}
use Rattle.ap_world.specs.Primitives.{nil}
use Rattle.ap_world.specs.Clauses.{not_of}
use Rattle.ap_world.specs.Shapes.{Shape, constant, negation, shape_of, is_constant}
use Rattle.ap_kernel.specs.declared.reductions.Inference.{Inference}
use Rattle.ap_kernel.specs.Equations.{truth_constant}
use Rattle.ap_kernel.specs.Choices.{bare}

-- (not 'k) is the constant that it means
abbrev pub negated_bare : Shape Term → Term → Term
negated_bare (constant v) u = truth_constant (value_eq (val_of v) nil)
negated_bare y u = not_of u

-- a literal with (not (not a)) taken for a, as often as it stands around it
abbrev pub plain_by : Term × Bool → Term
plain_by p = cond p.1 (negated_bare (shape_of p.0) p.0) p.0

abbrev pub plain : Term → Term
plain u = plain_by (bare u)

-- no constant and no negation
abbrev pub is_bare : Shape Term → Bool
is_bare (constant v) = false
is_bare (negation a) = false
is_bare y = true

-- in plain form at sight: no negation, or the negation of what is neither a constant nor a negation
abbrev pub is_plain : Shape Term → Bool
is_plain (negation a) = is_bare (shape_of a)
is_plain y = true

-- the literals that count: no 'NIL, and none that stands before
abbrev pub kept : List Term → List Term → List Term
kept before [] = []
kept before (u ∷ us) = cond (is_constant false u || is_among term_eq u before) (kept before us) (u ∷ kept (before ++ u ∷ []) us)

abbrev pub tidied : List Term → List Term
tidied ts = kept [] (map plain ts)

-- a negation whose argument is a literal too
abbrev pub is_opposed : List Term → Shape Term → Bool
is_opposed ts (negation a) = is_among term_eq a ts
is_opposed ts y = false

-- a constant other than nil, or a negation of a literal of the clause
abbrev pub decides : List Term → Term → Bool
decides ts u = is_constant true u || is_opposed ts (shape_of u)

abbrev pub any_decides : List Term → List Term → Bool
any_decides ts [] = false
any_decides ts (u ∷ us) = decides ts u || any_decides ts us

-- the clause holds by itself
abbrev pub holds_by_itself : List Term → Bool
holds_by_itself ts = any_decides ts ts

-- the negation of a literal is one of them
abbrev pub negates : Shape Term → Term → Bool
negates (negation a) u = term_eq a u
negates y u = false

abbrev pub is_denied : List Term → Term → Bool
is_denied [] u = false
is_denied (t ∷ ts) u = negates (shape_of t) u || is_denied ts u

-- a literal beside which a clause with these holds by itself
abbrev pub closes : List Term → Term → Bool
closes ts u = decides ts u || is_denied ts u

-- to no clause where the plain form holds by itself, else to the plain form
abbrev pub tidy_goals : List Term → List Clause
tidy_goals ts = cond (holds_by_itself ts) [] (record { 0 = ts } ∷ [])

abbrev pub tidy_made : Clause → Inference
tidy_made c = record { from = c; to = tidy_goals (tidied c.0) }
