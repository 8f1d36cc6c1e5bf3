-- How a body recurs: its calls of its own name, its cases, its measure, and what must be valid for it
-- to end. See the manual's topics `defun`, `measure` and `induction-machine`.
use Rattle.std.specs.Prelude.{Bool, true, false, cond, not, ◌&&◌, ◌||◌, nat_le, List, [], ◌∷◌, ◌++◌, map, length, zip, Option, Some, None}
use Rattle.ap_list.specs.Lists.{joined, all_true, is_among}
use Rattle.ap_value.specs.declared.symbol.Symbol.{Symbol}
use Rattle.ap_value.specs.declared.value.Value.TheVariants.{Sym}
use Rattle.ap_value.specs.Values.{symbol_eq}
use Rattle.ap_term.specs.declared.term.Term.{Term, para-Term, Var, Quote, Call}
use Rattle.ap_term.specs.declared.term.Term.TheOpen.{Term-F}
use Rattle.ap_term.specs.Equal.{term_eq}
use Rattle.ap_term.specs.Terms.{vars_after, subst_of}
use Rattle.ap_world.specs.declared.entry.Case.{Case}
use Rattle.ap_world.specs.declared.entry.Measure.{Measure}
use Rattle.ap_world.specs.declared.entry.Defun.{Defun}
use Rattle.ap_world.specs.Names.{nil_name, t_name, if_name, equal_name, less_name, natp_name, acl2_count_name}
use Rattle.ap_world.specs.Clauses.{not_of, negate, conjuncts, if_parts}

-- two lists of arguments are one
abbrev pub args_eq : List Term → List Term → Bool
args_eq [] [] = true
args_eq (a ∷ xs) (b ∷ ys) = term_eq a b && args_eq xs ys
args_eq xs ys = false

-- the arguments without repeats, the first of each kept
abbrev pub without_repeats : List (List Term) → List (List Term) → List (List Term)
without_repeats seen [] = []
without_repeats seen (c ∷ cs) = cond (is_among args_eq c seen) (without_repeats seen cs) (c ∷ without_repeats (c ∷ seen) cs)

-- no term of the list
abbrev pub is_empty : {A : Type 0} → List A → Bool
is_empty [] = true
is_empty (x ∷ xs) = false

-- what follows speaks of the function's own name F
module _ (F : Symbol) where
  -- the arguments of a call of F, in a list
  abbrev pub own_call : Symbol → List Term → List (List Term)
  own_call f ts = cond (symbol_eq f F) (ts ∷ []) []

  -- the arguments of the calls of F in a term, in preorder
  abbrev pub calls_step : Term-F (Term × List (List Term)) → List (List Term)
  calls_step (Term-F.Var x) = []
  calls_step (Term-F.Quote v) = []
  calls_step (Term-F.Call f ps) = own_call f (map (λ p. p.0) ps) ++ joined (map (λ p. p.1) ps)

  abbrev pub calls_in : Term → List (List Term)
  calls_in = para-Term (List (List Term)) calls_step

  abbrev pub has_no_call : Term → Bool
  has_no_call u = is_empty (calls_in u)

  -- the two branches of an `if` where one of them has a call, else a leaf
  abbrev pub at_branches : {A : Type 0} → (Term → A → A → A) → A → Option ((Term × A) × (Term × A) × (Term × A)) → A
  at_branches both leaf None = leaf
  at_branches both leaf (Some (a, b, c)) = cond (has_no_call b.0 && has_no_call c.0) leaf (both a.0 b.1 c.1)

-- a case with one test more, before the others
abbrev pub with_test : Term → Case → Case
with_test a k = record { tests = a ∷ k.tests; calls = k.calls }

-- the cases of both branches of an `if`, under its test and under the test's negation
abbrev pub two_cases : Term → List Case → List Case → List Case
two_cases a ks ls = map (with_test a) ks ++ map (with_test (not_of a)) ls

module _ (F : Symbol) where
  -- a leaf: one case without tests, with the distinct calls
  abbrev pub one_case : Term → List Case
  one_case u = record { tests = []; calls = without_repeats [] (calls_in F u) } ∷ []

  -- the cases of a body
  abbrev pub cases_step : Term-F (Term × List Case) → List Case
  cases_step (Term-F.Var x) = one_case (Var x)
  cases_step (Term-F.Quote v) = one_case (Quote v)
  cases_step (Term-F.Call f ps) = at_branches F two_cases (one_case (Call f (map (λ p. p.0) ps))) (if_parts (symbol_eq f if_name) ps)

  abbrev pub cases_of : Term → List Case
  cases_of = para-Term (List Case) cases_step

  -- no argument of a call of F has another one
  abbrev pub has_flat_calls : List (List Term) → Bool
  has_flat_calls cs = all_true (map (λ ts. all_true (map (has_no_call F) ts)) cs)

  -- nor has the test of an `if` whose branches have calls
  abbrev pub clear_test : Term → Bool → Bool → Bool
  clear_test a k l = has_no_call F a && (k && l)

  abbrev pub unnested_step : Term-F (Term × Bool) → Bool
  unnested_step (Term-F.Var x) = true
  unnested_step (Term-F.Quote v) = true
  unnested_step (Term-F.Call f ps) = at_branches F clear_test (has_flat_calls (calls_in F (Call f (map (λ p. p.0) ps)))) (if_parts (symbol_eq f if_name) ps)

  -- the recursion isn't nested
  abbrev pub is_unnested : Term → Bool
  is_unnested = para-Term Bool unnested_step

-- (natp m)
abbrev pub natp_of : Term → Term
natp_of m = Call natp_name (m ∷ [])

-- (acl2-count x)
abbrev pub count_of : Symbol → Term
count_of x = Call acl2_count_name (Var x ∷ [])

-- the constants t and nil
abbrev pub t_constant : Term
t_constant = Quote (Sym t_name)

abbrev pub nil_constant : Term
nil_constant = Quote (Sym nil_name)

-- one test of the case mentions x
abbrev pub mentions : Symbol → List Term → Bool
mentions x [] = false
mentions x (u ∷ us) = is_among symbol_eq x (vars_after u []) || mentions x us

-- at the place of x each call has another argument than x
abbrev pub is_changed : Symbol → List (Symbol × Term) → Bool
is_changed x [] = false
is_changed x (p ∷ ps) = cond (symbol_eq x p.0) (not (term_eq p.1 (Var x))) (is_changed x ps)

-- x is mentioned by a test and changed by each call, or the case has no call
abbrev pub suits : List Symbol → Symbol → Case → Bool
suits formals x k = is_empty k.calls || (mentions x k.tests && all_true (map (λ c. is_changed x (zip formals c)) k.calls))

-- the count of the first formal that suits every case
abbrev pub first_suiting : List Symbol → List Symbol → List Case → Option (List Term)
first_suiting formals [] ks = None
first_suiting formals (x ∷ xs) ks = cond (all_true (map (suits formals x) ks)) (Some (count_of x ∷ [])) (first_suiting formals xs ks)

abbrev pub chosen_measure : List Symbol → List Case → Option (List Term)
chosen_measure formals ks = first_suiting formals formals ks

-- the given measure has one to four components
abbrev pub given_measure : List Term → Option (List Term)
given_measure m = cond (nat_le 1 (length m) && nat_le (length m) 4) (Some m) None

-- the given one, else the chosen one
abbrev pub measure_by : Option Measure → List Symbol → List Case → Option (List Term)
measure_by (Some m) formals ks = given_measure m.0
measure_by None formals ks = chosen_measure formals ks

-- the measure of a recursive function: none where its recursion is nested
abbrev pub measure_of : Defun → Option (List Term)
measure_of d = cond (is_unnested d.name d.body) (measure_by d.measure d.formals d.cases) None

-- the first list is less than the second, component by component
abbrev pub less : List Term → List Term → Term
less (a ∷ []) (b ∷ []) = Call less_name (a ∷ b ∷ [])
less (a ∷ xs) (b ∷ ys) = Call if_name (Call less_name (a ∷ b ∷ []) ∷ t_constant ∷ Call if_name (Call equal_name (a ∷ b ∷ []) ∷ less xs ys ∷ nil_constant ∷ []) ∷ [])
less xs ys = nil_constant

-- the negations of the tests' conjuncts
abbrev pub negated_tests : List Term → List Term
negated_tests ts = map negate (joined (map conjuncts ts))

-- under the tests the measure falls at a call
abbrev pub decrease : List Symbol → List Term → Case → List Term → List Term
decrease formals m k c = negated_tests k.tests ++ (less (map (subst_of (zip formals c)) m) m ∷ [])

abbrev pub case_obligations : List Symbol → List Term → Case → List (List Term)
case_obligations formals m k = map (decrease formals m k) k.calls

-- each component is a natural number
abbrev pub natural_obligations : List Term → List (List Term)
natural_obligations m = map (λ u. natp_of u ∷ []) m

-- for each case and call, the measure falls
abbrev pub falling_obligations : List Symbol → List Term → List Case → List (List Term)
falling_obligations formals m ks = joined (map (case_obligations formals m) ks)

-- the obligations of a recursive function: for a given measure that its components are natural, then that it falls
abbrev pub obligations : Bool → List Symbol → List Term → List Case → List (List Term)
obligations given formals m ks = cond given (natural_obligations m) [] ++ falling_obligations formals m ks
