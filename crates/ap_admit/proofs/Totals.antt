-- A function whose taken calls rank lower keeps a world total.
use Rattle.std.proofs.Common.{◌≡◌, ℕ, suc, Bool, true, false, List, length, zip, Some, refl, sym, ap, ◌∙◌, subst, eq-eqb}
use Rattle.ap_list.specs.Lists.{Each}
use Rattle.ap_value.specs.declared.symbol.Symbol.{Symbol}
use Rattle.ap_value.specs.Values.{V, symbol_eq}
use Rattle.ap_value.proofs.Equals.{symbol_eq-true}
use Rattle.ap_term.specs.declared.term.Term.{Term}
use Rattle.ap_world.specs.declared.entry.Case.{Case}
use Rattle.ap_world.specs.declared.entry.Function.{Function}
use Rattle.ap_world.specs.Clauses.{not_of}
use Rattle.ap_world.specs.Meaning.{Env, Defs, meaning, calls, HasValue, CallValue, Total}
use Rattle.ap_world.specs.Recursion.{cases_of, is_unnested}
use Rattle.ap_world.specs.Sound.{known}
use Rattle.ap_world.proofs.Knowing.{each_same}
use Rattle.ap_world.proofs.TotalMeaning.{Apply, Models, AllTrue, val, val_is, values_of, values_of-length}
use Rattle.ap_world.proofs.Extending.{value_extend, call_extend}
use Rattle.ap_world.proofs.Lists.{any_each, each_zip}
use Rattle.ap_world.proofs.Lex.{LexLess, lex_ind}
use Rattle.ap_world.proofs.Negations.{HasNot}
use Rattle.ap_world.proofs.Ready.{ready_call, gather_values, call_value}
use Rattle.ap_world.proofs.Cases.{Adds, CallKnown, CaseKnown, cases_known}
use Rattle.ap_world.proofs.Taken.{CallValued, TakenBy, taken}

-- the calls of a case rank lower than the formals' values under which its tests hold
abbrev pub Falls : Apply → Function → (List V → List ℕ) → Case → Type 0
Falls A f rank k = (vs : List V) → length f.formals ≡ length vs → AllTrue A (zip f.formals vs) k.tests
    → Each (λ c. length f.formals ≡ length c → LexLess (rank (values_of A c (zip f.formals vs))) (rank vs)) k.calls

module _ (D E : Defs) (F : Symbol) (f : Function) (adds : Adds D E F f) (A : Apply) (models : Models D A) (has : HasNot A) (nots : (u : Term) → known D u ≡ true → known D (not_of u) ≡ true)
    (body_known : known E f.body ≡ true) (flat : is_unnested F f.body ≡ true)
    (n : ℕ) (rank : List V → List ℕ) (ranks : (vs : List V) → length (rank vs) ≡ n) (falls : Each (Falls A f rank) (cases_of F f.body)) where
  abbrev Gives : List V → Type 0
  Gives vs = (v : V) × CallValue E F vs v

  -- a call in the body, from what its values give
  call_valued : (e : Env) (c : List Term) → Each (λ u. known D u ≡ true) c → Gives (values_of A c e) → CallValued E F e c
  call_valued e c k (v, h) =
      let (m, ps) = gather_values E e A c (each_same c (λ u q. value_extend D E adds.extends u e (val A u e) (val_is D A models u q e)) k) in
      (v, call_value E e F c (values_of A c e) m v ps (ready_call E F (values_of A c e) v adds.no_prim h))

  gives : (ms : List ℕ) → length ms ≡ n → (vs : List V) → length f.formals ≡ length vs → rank vs ≡ ms → Gives vs
  gives = lex_ind n (λ ms. (vs : List V) → length f.formals ≡ length vs → rank vs ≡ ms → Gives vs) step
    where
      step : (ms : List ℕ) → length ms ≡ n → ((ns : List ℕ) → length ns ≡ n → LexLess ns ms → (ws : List V) → length f.formals ≡ length ws → rank ws ≡ ns → Gives ws)
          → (vs : List V) → length f.formals ≡ length vs → rank vs ≡ ms → Gives vs
      step ms l smaller vs len is = (body.0, (suc body.1.0, opened body.1.0 ∙ body.1.1))
        where
          e : Env
          e = zip f.formals vs

          found : (k : Case) × TakenBy D E F f adds A models (zip f.formals vs) f.body k × (CaseKnown D (length f.formals) k × Falls A f rank k)
          found = any_each (TakenBy D E F f adds A models (zip f.formals vs) f.body) (λ k. CaseKnown D (length f.formals) k × Falls A f rank k) (cases_of F f.body)
              (taken D E F f adds A models (zip f.formals vs) has f.body body_known flat)
              (each_zip (CaseKnown D (length f.formals)) (Falls A f rank) (λ k. CaseKnown D (length f.formals) k × Falls A f rank k) (cases_of F f.body) (λ k p q. (p, q)) (cases_known D E F f adds nots f.body body_known flat) falls)

          one : (c : List Term) → CallKnown D (length f.formals) c → (length f.formals ≡ length c → LexLess (rank (values_of A c (zip f.formals vs))) (rank vs)) → CallValued E F (zip f.formals vs) c
          one c known_c less =
              let len_c : length f.formals ≡ length (values_of A c (zip f.formals vs)) = known_c.1 ∙ sym (values_of-length A c (zip f.formals vs)) in
              call_valued (zip f.formals vs) c known_c.0
              (smaller (rank (values_of A c (zip f.formals vs))) (ranks (values_of A c (zip f.formals vs))) (subst (λ ns. LexLess (rank (values_of A c (zip f.formals vs))) ns) is (less known_c.1)) (values_of A c (zip f.formals vs)) len_c refl)

          body : (v : V) × HasValue E f.body (zip f.formals vs) v
          body = found.1.value (each_zip (CallKnown D (length f.formals)) (λ c. length f.formals ≡ length c → LexLess (rank (values_of A c (zip f.formals vs))) (rank vs)) (CallValued E F (zip f.formals vs)) found.0.calls
              one found.2.0.1 (found.2.1 vs len found.1.tests))

          opened : (k : ℕ) → calls (suc k) E F vs ≡ meaning (calls k E) f.body (zip f.formals vs)
          opened k = rw (adds.here, eq-eqb (length f.formals) (length vs) len) refl

  pub total_more : Total E
  total_more x g vs is len = go (symbol_eq x F) refl
    where
      go : (b : Bool) → symbol_eq x F ≡ b → (v : V) × CallValue E x vs v
      go true same =
          let x_is : x ≡ F = symbol_eq-true x F same in
          let found : Some f ≡ Some g = sym adds.here ∙ ap E (sym x_is) ∙ is in
          let g_is : f ≡ g = cc in
          subst (λ y. (v : V) × CallValue E y vs v) (sym x_is) (gives (rank vs) (ranks vs) vs (ap (λ (k : Function). length k.formals) g_is ∙ len) refl)
      go false other = (A x vs, call_extend D E adds.extends x vs (A x vs) (models x g vs (sym (adds.only x other) ∙ is) len))
