-- The clauses of an induction by a recursive function, and when a call of it is a candidate.
use Rattle.std.specs.Prelude.{◌≡◌, ℕ, ◌+◌, nat_eq, Bool, true, false, cond, not, ◌&&◌, ◌||◌, List, [], ◌∷◌, ◌++◌, map, zip, length, Option, Some, None}
use Rattle.ap_list.specs.Lists.{Each, joined, all_true, is_among, is_distinct}
use Rattle.ap_value.specs.declared.symbol.Symbol.{Symbol}
use Rattle.ap_value.specs.Values.{symbol_eq}
use Rattle.ap_term.specs.declared.term.Term.{Term, out-Term, Call}
use Rattle.ap_term.specs.declared.term.Term.TheOpen.{Term-F}
use Rattle.ap_term.specs.declared.term.Clause.{Clause}
use Rattle.ap_term.specs.Terms.{subst_of, vars_after}
use Rattle.ap_world.specs.declared.entry.Case.{Case}
use Rattle.ap_world.specs.declared.entry.Measure.{Measure}
use Rattle.ap_world.specs.declared.entry.Function.{Function}
use Rattle.ap_world.specs.declared.entry.Entry.{Entry}
use Rattle.ap_world.specs.Names.{nil_name}
use Rattle.ap_world.specs.Clauses.{negate}
use Rattle.ap_world.specs.Primitives.{prim_of}
use Rattle.ap_world.specs.Meaning.{Valid}
use Rattle.ap_world.specs.Recursion.{mentions, is_changed}
use Rattle.ap_world.specs.Sound.{known, HasFunctions, Sound}
use Rattle.ap_world.specs.World.{function_of}
use Rattle.ap_kernel.specs.declared.reductions.Inference.{Inference}
use Rattle.ap_kernel.specs.Inferences.{KnownClause, Follows}
use Rattle.ap_kernel.specs.Splits.{and_then}
pub use Rattle.ap_kernel.specs.Solving.{any_true, occurs}
pub use Rattle.ap_kernel.specs.declared.places.Place.{Place}

-- one of each list, the last varying fastest
abbrev pub choices : {A : Type 0} → List (List A) → List (List A)
choices [] = [] ∷ []
choices (xs ∷ xss) = joined (map (λ x. map (λ ys. x ∷ ys) (choices xss)) xs)

-- a replacement of variables for each call of a case, which is given by its arguments
abbrev pub Moving : Type 0
Moving = List Term → List (Symbol × Term)

module _ (c : List Term) (s : List (Symbol × Term)) (moved : Moving) where
  -- the clause's literals under the replacement of a call, each negated
  abbrev pub negated_at : List Term → List Term
  negated_at call = map (λ l. negate (subst_of (moved call) l)) c

  -- the negated tests at the actuals, which s has for the formals, a choice of such literals, and the clause
  abbrev pub with_choice : Case → List Term → List Term
  with_choice k ls = map (λ u. negate (subst_of s u)) k.tests ++ (ls ++ c)

  abbrev pub case_clauses : Case → List (List Term)
  case_clauses k = map (with_choice k) (choices (map negated_at k.calls))

  abbrev pub induction : List Case → List (List Term)
  induction ks = joined (map case_clauses ks)

-- a variable's name; that of another term is `nil`
abbrev pub variable_in : Term-F Term → Symbol
variable_in (Term-F.Var x) = x
variable_in y = nil_name

abbrev pub variable_of : Term → Symbol
variable_of u = variable_in (out-Term u)

abbrev pub is_variable_in : Term-F Term → Bool
is_variable_in (Term-F.Var x) = true
is_variable_in y = false

abbrev pub is_variable : Term → Bool
is_variable u = is_variable_in (out-Term u)

-- the variables that are replaced, and what they are replaced by at a call: its arguments at the actuals
abbrev pub moved_names : List Place → List Symbol
moved_names [] = []
moved_names (p ∷ ps) = cond p.is_moved (variable_of p.actual ∷ moved_names ps) (moved_names ps)

abbrev pub moved_at : List (Symbol × Term) → List Place → Moving
moved_at s [] cs = []
moved_at s (p ∷ ps) [] = []
moved_at s (p ∷ ps) (c ∷ cs) = cond p.is_moved ((variable_of p.actual, subst_of s c) ∷ moved_at s ps cs) (moved_at s ps cs)

abbrev pub formals_of : List Place → List Symbol
formals_of = map (λ p. p.formal)

abbrev pub actuals_of : List Place → List Term
actuals_of = map (λ p. p.actual)

abbrev pub pairs_of : List Place → List (Symbol × Term)
pairs_of = map (λ p. (p.formal, p.actual))

-- the clauses of the induction at these places
abbrev pub induction_at : List Term → List Place → List Case → List (List Term)
induction_at c ps ks = induction c (pairs_of ps) (moved_at (pairs_of ps) ps) ks

-- how many of the tests are true
abbrev pub count_true : List Bool → ℕ
count_true [] = 0
count_true (b ∷ bs) = cond b 1 0 + count_true bs

-- no variable of the term is one of these
abbrev pub is_apart : List Symbol → Term → Bool
is_apart names u = all_true (map (λ x. not (is_among symbol_eq x names)) (vars_after u []))

module _ (formals : List Symbol) (m : List Term) (ks : List Case) where
  -- some call changes the formal
  abbrev pub changes : Symbol → Bool
  changes x = any_true (map (λ k. any_true (map (λ c. is_changed x (zip formals c)) k.calls)) ks)

  -- a formal that the measure mentions and some call changes
  abbrev pub is_led : Symbol → Bool
  is_led x = mentions x m && changes x

  abbrev pub led_names : List (Symbol × Term) → List Symbol
  led_names [] = []
  led_names (p ∷ ps) = cond (is_led p.0) (variable_of p.1 ∷ led_names ps) (led_names ps)

  -- another changed formal is replaced too where its actual is a variable that no other actual has
  abbrev pub follows : List Term → Symbol × Term → Bool
  follows actuals p = changes p.0 && (is_variable p.1 && nat_eq (count_true (map (occurs (variable_of p.1)) actuals)) 1)

  abbrev pub place_of : List Term → Symbol × Term → Place
  place_of actuals p = record { formal = p.0; actual = p.1; is_moved = is_led p.0 || follows actuals p; is_measured = mentions p.0 m }

  abbrev pub places_of : List Term → List Place
  places_of actuals = map (place_of actuals) (zip formals actuals)

  -- the actual of each led formal is a variable, and these are distinct; none occurs in the actual of another formal that the measure mentions
  abbrev pub fits : List Symbol → Symbol × Term → Bool
  fits names p = cond (is_led p.0) (is_variable p.1) (not (mentions p.0 m) || is_apart names p.1)

  abbrev pub is_candidate : List Term → Bool
  is_candidate actuals = nat_eq (length formals) (length actuals)
      && (all_true (map (fits (led_names (zip formals actuals))) (zip formals actuals)) && is_distinct symbol_eq (led_names (zip formals actuals)))

-- the function is recursive, and its call on these actuals has a candidate's conditions
abbrev pub measured_leads : Function → Option Measure → List Term → Bool
measured_leads g None actuals = false
measured_leads g (Some m) actuals = is_candidate g.formals m.0 g.cases actuals

abbrev pub leads_induction : Option Function → List Term → Bool
leads_induction None actuals = false
leads_induction (Some g) actuals = measured_leads g g.measure actuals

-- the clause, and those of the induction by a call of g at these actuals
abbrev pub inducted : Clause → Function → Measure → List Term → Inference
inducted c g m actuals = record { from = c; to = map (λ ts. record { 0 = ts }) (induction_at c.0 (places_of g.formals m.0 g.cases actuals) g.cases) }

abbrev pub induct_made : Option Function → Clause → List Term → Option Inference
induct_made o c actuals = and_then o (λ (g : Function). and_then g.measure (λ (m : Measure). Some (inducted c g m actuals)))

-- a clause is valid where those of the induction by a call of a recursive function that is a candidate are
abbrev pub InductionIsSound : Type 0
InductionIsSound = (W : List Entry) (f : Symbol) (g : Function) (m : Measure) → Sound W → HasFunctions (function_of W) → function_of W f ≡ Some g → prim_of f ≡ None → g.measure ≡ Some m
    → (actuals : List Term) → is_candidate g.formals m.0 g.cases actuals ≡ true
    → (c : List Term) → all_true (map (known (function_of W)) c) ≡ true
    → Each (Valid (function_of W)) (induction_at c (places_of g.formals m.0 g.cases actuals) g.cases) → Valid (function_of W) c

-- and the induction's clauses are of terms of the world, where the clause and the actuals are
abbrev pub InductionIsKnown : Type 0
InductionIsKnown = (W : List Entry) (f : Symbol) (g : Function) (m : Measure) → Sound W → HasFunctions (function_of W) → function_of W f ≡ Some g → prim_of f ≡ None → g.measure ≡ Some m
    → (actuals : List Term) → all_true (map (known (function_of W)) actuals) ≡ true → is_candidate g.formals m.0 g.cases actuals ≡ true
    → (c : List Term) → all_true (map (known (function_of W)) c) ≡ true
    → Each (λ d. all_true (map (known (function_of W)) d) ≡ true) (induction_at c (places_of g.formals m.0 g.cases actuals) g.cases)

-- so the clause follows from them
abbrev pub InductionFollows : Type 0
InductionFollows = (W : List Entry) (f : Symbol) (g : Function) (m : Measure) → Sound W → HasFunctions (function_of W) → function_of W f ≡ Some g → prim_of f ≡ None → g.measure ≡ Some m
    → (actuals : List Term) → known (function_of W) (Call f actuals) ≡ true → is_candidate g.formals m.0 g.cases actuals ≡ true
    → (c : Clause) → KnownClause (function_of W) c → Follows (function_of W) (inducted c g m actuals)
