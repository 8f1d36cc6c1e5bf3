-- The shapes that the other classes ask for: a linear theorem's conjuncts are inequalities with a trigger, and a
-- type prescription is a recogniser on a call of distinct variables.
use Rattle.std.specs.Prelude.{Bool, true, false, cond, ◌&&◌, List, [], ◌∷◌, Option, Some, None, is_some}
use Rattle.ap_list.specs.Lists.{is_within}
use Rattle.ap_value.specs.Values.{symbol_eq}
use Rattle.ap_term.specs.declared.term.Term.{Term, out-Term}
use Rattle.ap_term.specs.declared.term.Term.TheOpen.{Term-F}
use Rattle.ap_term.specs.Terms.{vars_after}
use Rattle.ap_world.specs.declared.entry.RuleClass.{RuleClass}
use Rattle.ap_world.specs.declared.entry.RuleClass.TheVariants as class
use Rattle.ap_world.specs.Names.{not_name}
use Rattle.ap_world.specs.Rows.{recognised}
use Rattle.ap_world.specs.Typing.{are_distinct_variables}
use Rattle.ap_poly.specs.Polynomials.{Polynomial}
use Rattle.ap_poly.specs.Literals.{of_literal}
use Rattle.ap_poly.specs.Bounds.{first_atoms}

-- a conjunct as a literal: of (not a) that a is nil
abbrev pub signed_by : Bool → List Term → Term → Term × Bool
signed_by true (a ∷ []) u = (a, false)
signed_by b ts u = (u, true)

abbrev pub signed_in : Term-F Term → Term → Term × Bool
signed_in (Term-F.Call f ts) u = signed_by (symbol_eq f not_name) ts u
signed_in y u = (u, true)

abbrev pub signed : Term → Term × Bool
signed u = signed_in (out-Term u) u

-- what a conjunct says of integers
abbrev pub told : Term → List Polynomial
told u = of_literal (signed u).0 (signed u).1

-- a trigger is an atom that is a call with all variables of the conjunct
abbrev pub is_call : Term-F Term → Bool
is_call (Term-F.Call f ts) = true
is_call y = false

abbrev pub is_trigger : Term → Term → Bool
is_trigger u x = is_call (out-Term x) && is_within symbol_eq (vars_after u []) (vars_after x [])

abbrev pub first_trigger : Term → List Term → Option Term
first_trigger u [] = None
first_trigger u (x ∷ xs) = cond (is_trigger u x) (Some x) (first_trigger u xs)

-- the first of its atoms, in order of first occurrence
abbrev pub trigger_of : Term → Option Term
trigger_of u = first_trigger u (first_atoms (told u))

abbrev pub is_inequality : Term → Bool
is_inequality u = is_some (trigger_of u)

abbrev pub all_inequalities : List Term → Bool
all_inequalities [] = true
all_inequalities (u ∷ us) = is_inequality u && all_inequalities us

-- a recogniser on a call of distinct variables
abbrev pub calls_variables : Term-F Term → Bool
calls_variables (Term-F.Call f ts) = are_distinct_variables ts
calls_variables y = false

abbrev pub is_type_form : Term-F Term → Bool
is_type_form (Term-F.Call r (a ∷ [])) = is_some (recognised r) && calls_variables (out-Term a)
is_type_form y = false

-- the classes have that of linear rules
abbrev pub is_linear : List RuleClass → Bool
is_linear [] = false
is_linear (class.Linear ∷ cs) = true
is_linear (c ∷ cs) = is_linear cs
