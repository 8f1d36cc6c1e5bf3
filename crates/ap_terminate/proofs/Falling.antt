-- The order on lists of terms, by whether they go on.
use Rattle.std.proofs.Common.{◌≡◌, ℕ, ◌+◌, ◌<◌, true, false, List, [], ◌∷◌, ◌++◌, map, zip, length, drop, get_or, refl, ap, sym, ◌∙◌, append_assoc}
use Rattle.ap_value.specs.declared.symbol.Symbol.{Symbol}
use Rattle.ap_term.specs.declared.term.Term.{Term}
use Rattle.ap_term.specs.declared.term.Clause.{Clause}
use Rattle.ap_term.specs.Terms.{subst_of}
use Rattle.ap_world.specs.declared.entry.Case.{Case}
use Rattle.ap_world.specs.Clauses.{flat}
use Rattle.ap_world.specs.Ground.{two}
use Rattle.ap_world.specs.Laws.{under}
use Rattle.ap_world.specs.Names.{less_name}
use Rattle.ap_world.specs.Recursion.{less, decrease}
use Rattle.ap_world.proofs.Conjectures.{decrease_flat}
use Rattle.ap_terminate.specs.Distinct.{clause_of}
use Rattle.ap_terminate.specs.Less.{are_last, or_later}
use Rattle.ap_terminate.proofs.Calling.{from_item}

pub less_last : (a b : Term) (xs ys : List Term) → are_last xs ys ≡ true → less (a ∷ xs) (b ∷ ys) ≡ two less_name a b
less_last a b [] [] h = refl
less_last a b [] (y ∷ ys) h = cc
less_last a b (x ∷ xs) ys h = cc

pub less_more : (a b : Term) (xs ys : List Term) → are_last xs ys ≡ false → less (a ∷ xs) (b ∷ ys) ≡ or_later a b (less xs ys)
less_more a b [] [] h = cc
less_more a b [] (y ∷ ys) h = refl
less_more a b (x ∷ xs) ys h = refl

-- the clause of the conjecture that the measure falls
pub decrease_made : (formals : List Symbol) (m : List Term) (k : Case) (call at : List Term) (falls u : Term) (q : Clause) → at ≡ map (subst_of (zip formals call)) m
    → falls ≡ less at m → u ≡ under k.tests falls → q.0 ≡ flat u → q ≡ clause_of (decrease formals m k call)
decrease_made formals m k call at falls u q a f e h =
    ap clause_of (h ∙ ap flat (e ∙ ap (under k.tests) (f ∙ ap (λ us. less us m) a)) ∙ sym (decrease_flat formals m k call))

-- what is there so far and what will be made of the rest, once the next is added
pub next_made : {A B C : Type 0} (g : A → B) (h : B → C) (xs : List A) (i : ℕ) (x : A) (out new all : List C) (y : C) → i < length xs → x ≡ get_or xs i x
    → y ≡ h (g x) → new ≡ out ++ y ∷ [] → out ++ map h (map g (drop i xs)) ≡ all → new ++ map h (map g (drop (i + 1) xs)) ≡ all
next_made g h xs i x out new all y l is made added before =
    ap (λ zs. zs ++ map h (map g (drop (i + 1) xs))) added
    ∙ append_assoc out (y ∷ []) (map h (map g (drop (i + 1) xs)))
    ∙ ap (λ z. out ++ z ∷ map h (map g (drop (i + 1) xs))) made
    ∙ ap (λ zs. out ++ map h (map g zs)) (sym (from_item xs i x l is))
    ∙ before
