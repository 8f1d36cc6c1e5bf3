-- An induction proves its clause: where some case always descends.
use Rattle.std.proofs.Common.{◌≡◌, ◌≢◌, ℕ, List, [], ◌∷◌, ◌++◌, map, zip, length, inl, inr, refl, sym, ◌∙◌, subst}
use Rattle.ap_list.specs.Lists.{Each, AnyOf}
use Rattle.ap_value.specs.declared.symbol.Symbol.{Symbol}
use Rattle.ap_term.specs.declared.term.Term.{Term}
use Rattle.ap_term.specs.Terms.{subst_of}
use Rattle.ap_world.specs.declared.entry.Case.{Case}
use Rattle.ap_world.specs.Primitives.{nil}
use Rattle.ap_world.specs.Meaning.{Env}
use Rattle.ap_world.specs.Clauses.{negate}
use Rattle.ap_world.proofs.Knowing.{each_same}
use Rattle.ap_world.proofs.TotalMeaning.{Apply, val, AllTrue, AnyTrue, replaced, val_subst}
use Rattle.ap_kernel.specs.Induction.{choices, Moving, negated_at, with_choice, case_clauses, induction}
use Rattle.ap_world.proofs.Lists.{any_each, any_same, any_map, any_joined, each_map, map_each, each_joined}
use Rattle.ap_world.proofs.Lex.{LexLess, lex_ind}
use Rattle.ap_world.proofs.Negations.{HasNot, not_both}

choose : {A : Type 0} (P : A → Type 0) (xss : List (List A)) → Each (AnyOf P) xss → AnyOf (Each P) (choices xss)
choose P [] h = inl tt
choose P (xs ∷ xss) h = any_joined (Each P) (λ x. map (λ ys. x ∷ ys) (choices xss)) xs
    (any_same P (λ x. AnyOf (Each P) (map (λ ys. x ∷ ys) (choices xss))) xs (λ x px. any_map (Each P) (Each P) (λ ys. x ∷ ys) (choices xss) (λ ys pys. (px, pys)) (choose P xss h.1)) h.0)

module _ (A : Apply) (has : HasNot A) (c : List Term) (formals : List Symbol) (actuals : List Term) (moved : Moving) where
  abbrev IsFalse : Env → Term → Type 0
  IsFalse e l = val A l e ≢ nil → ⊥

  past_false : (e : Env) (ls ts : List Term) → Each (IsFalse e) ls → AnyTrue A e (ls ++ ts) → AnyTrue A e ts
  past_false e [] ts h k = k
  past_false e (l ∷ ls) ts h (inl k) = absurd (h.0 k)
  past_false e (l ∷ ls) ts h (inr k) = past_false e ls ts h.1 k

  -- what holds of a term under a replacement, its negated instance denies
  denied : (e : Env) (s : List (Symbol × Term)) (u : Term) → val A u (replaced A s e) ≢ nil → IsFalse e (negate (subst_of s u))
  denied e s u h n = not_both A has e (subst_of s u) n (λ same. h (sym (val_subst A s u e) ∙ same))

  one_false : (e : Env) (call : List Term) (ls : List Term) → AnyTrue A (replaced A (moved call) e) ls → AnyOf (IsFalse e) (map (λ l. negate (subst_of (moved call) l)) ls)
  one_false e call [] h = absurd h
  one_false e call (l ∷ ls) (inl h) = inl (denied e (moved call) l h)
  one_false e call (l ∷ ls) (inr h) = inr (one_false e call ls h)

  -- the tests of k hold at the actuals, and each call of k ranks lower
  abbrev pub Descends : (Env → List ℕ) → Env → Case → Type 0
  Descends rank e k = AllTrue A (replaced A (zip formals actuals) e) k.tests × Each (λ call. LexLess (rank (replaced A (moved call) e)) (rank e)) k.calls

  abbrev Holds : List Term → Type 0
  Holds ts = (e : Env) → AnyTrue A e ts

  case_step : (rank : Env → List ℕ) (e : Env) (k : Case) → ((d : Env) → LexLess (rank d) (rank e) → AnyTrue A d c) → Descends rank e k
      → Each Holds (case_clauses c (zip formals actuals) moved k) → AnyTrue A e c
  case_step rank e k below down valid =
      let tests = map_each (IsFalse e) (λ u. negate (subst_of (zip formals actuals) u)) k.tests (each_same k.tests (denied e (zip formals actuals)) down.0) in
      let some = map_each (AnyOf (IsFalse e)) (negated_at c (zip formals actuals) moved) k.calls (each_same k.calls (λ call less. one_false e call c (below (replaced A (moved call) e) less)) down.1) in
      let r = any_each (Each (IsFalse e)) (λ ls. Holds (with_choice c (zip formals actuals) moved k ls)) (choices (map (negated_at c (zip formals actuals) moved) k.calls))
      (choose (IsFalse e) (map (negated_at c (zip formals actuals) moved) k.calls) some) (each_map Holds (with_choice c (zip formals actuals) moved k) (choices (map (negated_at c (zip formals actuals) moved) k.calls)) valid) in
      past_false e r.0 c r.1 (past_false e (map (λ u. negate (subst_of (zip formals actuals) u)) k.tests) (r.0 ++ c) tests (r.2 e))

  pub induct_core : (n : ℕ) (rank : Env → List ℕ) → ((e : Env) → length (rank e) ≡ n) → (ks : List Case) → ((e : Env) → AnyOf (Descends rank e) ks)
      → Each Holds (induction c (zip formals actuals) moved ks) → (e : Env) → AnyTrue A e c
  induct_core n rank ranks ks down valid e = lex_ind n (λ ms. (e : Env) → rank e ≡ ms → AnyTrue A e c) step (rank e) (ranks e) e refl
    where
      step : (ms : List ℕ) → length ms ≡ n → ((ns : List ℕ) → length ns ≡ n → LexLess ns ms → (d : Env) → rank d ≡ ns → AnyTrue A d c) → (e : Env) → rank e ≡ ms → AnyTrue A e c
      step ms l smaller e is =
          let r = any_each (Descends rank e) (λ k. Each Holds (case_clauses c (zip formals actuals) moved k)) ks (down e) (each_joined Holds (case_clauses c (zip formals actuals) moved) ks valid) in
          case_step rank e r.0 (λ d less. smaller (rank d) (ranks d) (subst (λ ns. LexLess (rank d) ns) is less) d refl) r.1 r.2
