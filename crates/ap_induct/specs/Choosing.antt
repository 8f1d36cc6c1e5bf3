-- Which call of a clause an induction goes by: the candidates, their scores, the choice.
use Rattle.std.specs.Prelude.{ℕ, ◌^◌, nat_le, Bool, cond, ◌&&◌, List, [], ◌∷◌, map, zip, length, Option, Some, None}
use Rattle.std.specs.Option.{option_map}
use Rattle.ap_list.specs.Lists.{joined, sum_of, is_within}
use Rattle.ap_value.specs.declared.symbol.Symbol.{Symbol}
use Rattle.ap_value.specs.Values.{symbol_eq}
use Rattle.ap_term.specs.declared.term.Term.{Term, para-Term, out-Term, Call}
use Rattle.ap_term.specs.declared.term.Term.TheOpen.{Term-F}
use Rattle.ap_term.specs.declared.term.Clause.{Clause}
use Rattle.ap_world.specs.declared.entry.Case.{Case}
use Rattle.ap_world.specs.declared.entry.Measure.{Measure}
use Rattle.ap_world.specs.declared.entry.Function.{Function}
use Rattle.ap_world.specs.declared.theory.RuneKind.TheVariants.{Induction}
use Rattle.ap_world.specs.Theories.{ShownTheory, rune_of, is_enabled}
use Rattle.ap_world.specs.Meaning.{Defs}
use Rattle.ap_kernel.specs.declared.reductions.Inference.{Inference}
use Rattle.ap_kernel.specs.Splits.{and_then}
use Rattle.ap_kernel.specs.Induction.{count_true, led_names, is_candidate, induct_made}

-- the calls in a term, in preorder, and those in literals
abbrev pub calls_step : Term-F (Term × List Term) → List Term
calls_step (Term-F.Call f ps) = Call f (map (λ p. p.0) ps) ∷ joined (map (λ p. p.1) ps)
calls_step y = []

abbrev pub calls_of : Term → List Term
calls_of = para-Term (List Term) calls_step

abbrev pub calls_among : List Term → List Term
calls_among ts = joined (map calls_of ts)

-- how many clauses an induction has, by the number of literals: for each case a choice of a literal for each call
abbrev pub clause_count : ℕ → List Case → ℕ
clause_count n ks = sum_of (map (λ k. n ^ length k.calls) ks)

-- where a call of a function on these actuals has a candidate's conditions, and the induction at most 1,024 clauses: the measured variables that it replaces
abbrev pub replaced_by : Function → Option Measure → ℕ → List Term → Option (List Symbol)
replaced_by g None n actuals = None
replaced_by g (Some m) n actuals =
    cond (is_candidate g.formals m.0 g.cases actuals && nat_le (clause_count n g.cases) 1024) (Some (led_names g.formals m.0 g.cases (zip g.formals actuals))) None

abbrev pub function_replaces : Option Function → ℕ → List Term → Option (List Symbol)
function_replaces None n actuals = None
function_replaces (Some g) n actuals = replaced_by g g.measure n actuals

-- the same of a call whose induction rune is enabled: the candidates
module _ (D : Defs) (h : ShownTheory) (n : ℕ) where
  abbrev pub replaces : Term-F Term → Option (List Symbol)
  replaces (Term-F.Call f ts) = cond (is_enabled h (rune_of Induction f)) (function_replaces (D f) n ts) None
  replaces y = None

  abbrev pub with_names : Term → Option (List Symbol) → List (Term × List Symbol)
  with_names u None = []
  with_names u (Some xs) = (u, xs) ∷ []

  abbrev pub candidates : List Term → List (Term × List Symbol)
  candidates us = joined (map (λ u. with_names u (replaces (out-Term u))) us)

-- a candidate's score: how many of the candidates replace the same measured variables
abbrev pub are_same : List Symbol → List Symbol → Bool
are_same xs ys = is_within symbol_eq xs ys && is_within symbol_eq ys xs

abbrev pub score : List (Term × List Symbol) → List Symbol → ℕ
score qs xs = count_true (map (λ (q : Term × List Symbol). are_same xs q.1) qs)

-- the first of the highest score
abbrev pub better : List (Term × List Symbol) → Term × List Symbol → Option (Term × List Symbol) → Option (Term × List Symbol)
better qs p None = Some p
better qs p (Some q) = cond (nat_le (score qs q.1) (score qs p.1)) (Some p) (Some q)

abbrev pub best : List (Term × List Symbol) → List (Term × List Symbol) → Option (Term × List Symbol)
best qs [] = None
best qs (p ∷ ps) = better qs p (best qs ps)

abbrev pub best_call : List (Term × List Symbol) → Option Term
best_call qs = option_map (λ (q : Term × List Symbol). q.0) (best qs qs)

-- the calls that are looked at: a hint's call alone, or those in the clause
abbrev pub looked_at : List Term → Option Term → List Term
looked_at ts None = calls_among ts
looked_at ts (Some u) = u ∷ []

abbrev pub chosen : Defs → ShownTheory → List Term → Option Term → Option Term
chosen D h ts o = best_call (candidates D h (length ts) (looked_at ts o))

-- the chosen call, and the induction by it
abbrev pub induction_by : Defs → Clause → Term-F Term → Option Inference
induction_by D c (Term-F.Call f ts) = induct_made (D f) c ts
induction_by D c y = None

abbrev pub scheme_by : Defs → Clause → Term → Option (Term × Inference)
scheme_by D c u = option_map (λ (i : Inference). (u, i)) (induction_by D c (out-Term u))

abbrev pub scheme_of : Defs → ShownTheory → Clause → Option Term → Option (Term × Inference)
scheme_of D h c o = and_then (chosen D h c.0 o) (scheme_by D c)
