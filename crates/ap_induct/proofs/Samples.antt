-- The definitions, computed on a call of `binary-append`: the clauses of the induction by it.
use Rattle.std.proofs.Common.{◌≡◌, true, false, List, [], ◌∷◌, map}
use Rattle.ap_value.specs.declared.symbol.Symbol.{Symbol}
use Rattle.ap_value.specs.declared.value.Value.{Value}
use Rattle.ap_value.specs.Values.{symbol_eq}
use Rattle.ap_term.specs.declared.term.Term.{Term, Var, Quote, Call}
use Rattle.ap_term.proofs.Induction.{fold_var, fold_quote, fold_call}
use Rattle.ap_term.proofs.Equals.{term_eq-same}
use Rattle.ap_world.specs.declared.entry.Case.{Case}
use Rattle.ap_world.specs.Names.{a_name, car_name, cons_name, endp_name, equal_name, not_name, cdr_name, true_listp_name, x_name, y_name}
use Rattle.ap_world.specs.Recursion.{count_of}
use Rattle.ap_world.specs.Ground.{one, two, a, x, y, append_function}
use Rattle.ap_world.proofs.Equations.{names_open}
use Rattle.ap_world.proofs.Written.{speaking, instances, recursion, out_var, out_call}
use Rattle.ap_kernel.specs.Induction.{is_candidate, places_of, induction_at, any_true, occurs}
use Rattle.ap_kernel.specs.Solving.{occurs_step}

occurs_var : (v w : Symbol) → occurs v (Var w) ≡ symbol_eq v w
occurs_var v w = fold_var (occurs_step v) w

occurs_quote : (v : Symbol) (q : Value) → occurs v (Quote q) ≡ false
occurs_quote v q = fold_quote (occurs_step v) q

occurs_call : (v f : Symbol) (ts : List Term) → occurs v (Call f ts) ≡ any_true (map (occurs v) ts)
occurs_call v f ts = fold_call (occurs_step v) f ts

ruleset occurring = (occurs_var, occurs_quote, occurs_call)

append_cases : append_function.cases ≡ record { tests = one endp_name x ∷ []; calls = [] } ∷ record { tests = one not_name (one endp_name x) ∷ []; calls = (one cdr_name x ∷ y ∷ []) ∷ [] } ∷ []
unfolding append_function names_open
append_cases = simp recursion

-- (binary-append x y) is a candidate, and (binary-append (cdr x) y) is none
pub append_candidate : is_candidate (x_name ∷ y_name ∷ []) (count_of x_name ∷ []) append_function.cases (x ∷ y ∷ []) ≡ true
unfolding names_open
append_candidate = simp (append_cases, speaking, recursion, term_eq-same, out_var)

pub no_candidate : is_candidate (x_name ∷ y_name ∷ []) (count_of x_name ∷ []) append_function.cases (one cdr_name x ∷ y ∷ []) ≡ false
unfolding names_open
no_candidate = simp (append_cases, speaking, recursion, term_eq-same, out_var, out_call)

-- the base case, and the step with the negated hypothesis on (cdr x)
pub append_clauses : induction_at (one true_listp_name x ∷ []) (places_of (x_name ∷ y_name ∷ []) (count_of x_name ∷ []) append_function.cases (x ∷ y ∷ [])) append_function.cases
    ≡ (one not_name (one endp_name x) ∷ one true_listp_name x ∷ []) ∷ (one endp_name x ∷ one not_name (one true_listp_name (one cdr_name x)) ∷ one true_listp_name x ∷ []) ∷ []
unfolding names_open
append_clauses = simp (append_cases, speaking, recursion, term_eq-same, instances, out_var, out_call)

-- a function of x and a that calls itself on (cdr x) and (cons (car x) a): a is outside the measure, and is replaced too
abbrev gathering : List Case
gathering = record { tests = one endp_name x ∷ []; calls = [] } ∷ record { tests = one not_name (one endp_name x) ∷ []; calls = (one cdr_name x ∷ two cons_name (one car_name x) a ∷ []) ∷ [] } ∷ []

pub both_replaced : induction_at (two equal_name x a ∷ []) (places_of (x_name ∷ a_name ∷ []) (count_of x_name ∷ []) gathering (x ∷ a ∷ [])) gathering
    ≡ (one not_name (one endp_name x) ∷ two equal_name x a ∷ []) ∷ (one endp_name x ∷ one not_name (two equal_name (one cdr_name x) (two cons_name (one car_name x) a)) ∷ two equal_name x a ∷ []) ∷ []
unfolding names_open
both_replaced = simp (speaking, occurring, recursion, instances, out_var, out_call)

-- where the same variable is the actual of both, only that of x counts
pub one_replaced : induction_at (two equal_name x a ∷ []) (places_of (x_name ∷ a_name ∷ []) (count_of x_name ∷ []) gathering (x ∷ x ∷ [])) gathering
    ≡ (one not_name (one endp_name x) ∷ two equal_name x a ∷ []) ∷ (one endp_name x ∷ one not_name (two equal_name (one cdr_name x) a) ∷ two equal_name x a ∷ []) ∷ []
unfolding names_open
one_replaced = simp (speaking, occurring, recursion, instances, out_var, out_call)

-- with a measure that mentions both, (f x x) is no candidate
pub not_distinct : is_candidate (x_name ∷ a_name ∷ []) (count_of x_name ∷ count_of a_name ∷ []) gathering (x ∷ x ∷ []) ≡ false
unfolding names_open
not_distinct = simp (speaking, recursion, out_var)

-- where the measure mentions both and the call keeps a: (f x (cons y a)) is a candidate, and (f x (cons x a)) is none, since x stands in the actual of a
abbrev keeping : List Case
keeping = record { tests = one endp_name x ∷ []; calls = [] } ∷ record { tests = one not_name (one endp_name x) ∷ []; calls = (one cdr_name x ∷ a ∷ []) ∷ [] } ∷ []

pub apart : is_candidate (x_name ∷ a_name ∷ []) (count_of x_name ∷ count_of a_name ∷ []) keeping (x ∷ two cons_name y a ∷ []) ≡ true
unfolding names_open
apart = simp (speaking, recursion, term_eq-same, out_var, out_call)

pub not_apart : is_candidate (x_name ∷ a_name ∷ []) (count_of x_name ∷ count_of a_name ∷ []) keeping (x ∷ two cons_name x a ∷ []) ≡ false
unfolding names_open
not_apart = simp (speaking, recursion, term_eq-same, out_var, out_call)
