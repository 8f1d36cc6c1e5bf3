-- Lists that are made one element after another, and the clauses of an induction.
use Rattle.std.proofs.Common.{◌≡◌, ℕ, suc, ◌+◌, ◌<◌, List, [], ◌∷◌, ◌++◌, map, drop, length, get_or, Option, Some, Result, IfOk, ap, sym, ◌∙◌, append_assoc, drop-cons, add-one}
use Rattle.std.proofs.lemmas.Result.{IfOk-weaker}
use Rattle.ap_list.specs.Lists.{joined}
use Rattle.ap_value.specs.declared.symbol.Symbol.{Symbol}
use Rattle.ap_term.specs.declared.term.Term.{Term}
use Rattle.ap_term.specs.declared.term.Clause.{Clause}
use Rattle.ap_term.specs.Terms.{subst_of}
use Rattle.ap_world.specs.declared.entry.Case.{Case}
use Rattle.ap_world.specs.declared.entry.Measure.{Measure}
use Rattle.ap_world.specs.declared.entry.Function.{Function}
use Rattle.ap_world.specs.Clauses.{negate}
use Rattle.ap_kernel.specs.declared.reductions.Inference.{Inference}
use Rattle.ap_kernel.specs.Splits.{and_then}
use Rattle.ap_kernel.specs.Induction.{Place, Moving, choices, negated_at, case_clauses, induction, moved_at, pairs_of, places_of, induction_at, inducted, induct_made}

-- the element at an index is the first of what is left there
pub from_item : {A : Type 0} (xs : List A) (i : ℕ) (x : A) → i < length xs → x ≡ get_or xs i x → drop i xs ≡ x ∷ drop (i + 1) xs
from_item xs i x h is = drop-cons xs i x h ∙ ap (λ z. z ∷ drop (suc i) xs) (sym is) ∙ ap (λ k. x ∷ drop k xs) (sym (add-one i))

-- one element more
pub one_mapped : {A B : Type 0} (f : A → B) (all : List A) (x : A) (xs rest : List A) (y : B) (out new : List B) → xs ≡ x ∷ rest → y ≡ f x → new ≡ out ++ y ∷ []
    → out ++ map f xs ≡ map f all → new ++ map f rest ≡ map f all
one_mapped f all x xs rest y out new is made more before =
    ap (λ zs. zs ++ map f rest) more
    ∙ append_assoc out (y ∷ []) (map f rest)
    ∙ ap (λ z. out ++ (z ∷ map f rest)) made
    ∙ ap (λ zs. out ++ map f zs) (sym is) ∙ before

abbrev pub each_before : List (List Term) → Term → List (List Term)
each_before later x = map (λ ys. x ∷ ys) later

-- one element more before each of the lists
pub one_more : (later : List (List Term)) (all : List Term) (x : Term) (xs rest : List Term) (out new : List (List Term)) → xs ≡ x ∷ rest → new ≡ out ++ each_before later x
    → out ++ joined (map (each_before later) xs) ≡ joined (map (each_before later) all) → new ++ joined (map (each_before later) rest) ≡ joined (map (each_before later) all)
one_more later all x xs rest out new is more before =
    ap (λ zs. zs ++ joined (map (each_before later) rest)) more
    ∙ append_assoc out (each_before later x) (joined (map (each_before later) rest))
    ∙ ap (λ zs. out ++ joined (map (each_before later) zs)) (sym is) ∙ before

-- the clauses of a case, of its negated tests and the choices of hypotheses
pub case_made : {E : Type 0} (r : Result (List (List Term)) E) (c : List Term) (s : List (Symbol × Term)) (moved : Moving) (k : Case) (tests : List Term) (lists chosen : List (List Term))
    → tests ≡ map (λ u. negate (subst_of s u)) k.tests → lists ≡ map (negated_at c s moved) k.calls → chosen ≡ choices lists
    → IfOk r (λ out. out ≡ map (λ ls. tests ++ (ls ++ c)) chosen) → IfOk r (λ out. out ≡ case_clauses c s moved k)
case_made r c s moved k tests lists chosen t l h =
    IfOk-weaker r (λ out. out ≡ map (λ ls. tests ++ (ls ++ c)) chosen) (λ out. out ≡ case_clauses c s moved k)
    (λ out e. e ∙ ap (λ us. map (λ ls. us ++ (ls ++ c)) chosen) t ∙ ap (λ cs. map (λ ls. map (λ u. negate (subst_of s u)) k.tests ++ (ls ++ c)) cs) (h ∙ ap choices l))

abbrev pub as_clause : List Term → Clause
as_clause ts = record { 0 = ts }

-- the induction at places, of the pairs of these
pub induction_made : {E : Type 0} (r : Result (List Clause) E) (c : List Term) (ps : List Place) (ks : List Case) (pairs : List (Symbol × Term)) (lists : List (List Term))
    → pairs ≡ pairs_of ps → lists ≡ induction c pairs (moved_at pairs ps) ks → IfOk r (λ cs. cs ≡ map as_clause lists) → IfOk r (λ cs. cs ≡ map as_clause (induction_at c ps ks))
induction_made r c ps ks pairs lists p l =
    IfOk-weaker r (λ cs. cs ≡ map as_clause lists) (λ cs. cs ≡ map as_clause (induction_at c ps ks))
    (λ cs e. e ∙ ap (map as_clause) (l ∙ ap (λ s. induction c s (moved_at s ps) ks) p))

-- the induction by a recursive function
pub made_by : (o : Option Function) (g : Function) (m : Measure) (c : Clause) (actuals : List Term) (ps : List Place) (cs : List Clause) → o ≡ Some g → g.measure ≡ Some m
    → ps ≡ places_of g.formals m.0 g.cases actuals → cs ≡ map as_clause (induction_at c.0 ps g.cases) → Some (record { from = c; to = cs }) ≡ induct_made o c actuals
made_by o g m c actuals ps cs here measure p is = sym (
    ap (λ o. induct_made o c actuals) here
    ∙ ap (λ o. and_then o (λ (m : Measure). Some (inducted c g m actuals))) measure
    ∙ ap says (sym (is ∙ ap (λ qs. map as_clause (induction_at c.0 qs g.cases)) p)))
  where
    says : List Clause → Option Inference
    says ds = Some (record { from = c; to = ds })
