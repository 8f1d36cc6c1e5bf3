-- An induction by a recursive function of the world.
use Rattle.std.proofs.Common.{◌≡◌, ℕ, true, List, [], ◌∷◌, map, zip, length, pos, refl, sym, ap, ◌∙◌, subst}
use Rattle.std.proofs.Math.ListN.{length-map}
use Rattle.ap_list.specs.Lists.{Each}
use Rattle.ap_value.specs.declared.symbol.Symbol.{Symbol}
use Rattle.ap_value.specs.Values.{int}
use Rattle.ap_term.specs.declared.term.Term.{Term}
use Rattle.ap_term.specs.Terms.{subst_of}
use Rattle.ap_world.specs.declared.entry.Case.{Case}
use Rattle.ap_world.specs.declared.entry.Function.{Function}
use Rattle.ap_world.specs.Meaning.{Env, Defs, Valid}
use Rattle.ap_world.specs.Recursion.{cases_of, is_unnested, less, decrease, case_obligations, falling_obligations}
use Rattle.ap_world.specs.Sound.{known}
use Rattle.ap_world.proofs.Knowing.{each_same}
use Rattle.ap_world.proofs.TotalMeaning.{Apply, Models, val, AllTrue, AnyTrue, replaced, val_subst, valid_is}
use Rattle.ap_kernel.specs.Induction.{Moving, induction}
use Rattle.ap_world.proofs.Lists.{any_both, each_map, each_joined, each_zip}
use Rattle.ap_world.proofs.Lex.{LexLess}
use Rattle.ap_world.proofs.Negations.{HasNot, past_tests}
use Rattle.ap_world.proofs.Falling.{nat_of, IsNat, less_is}
use Rattle.ap_world.proofs.Cases.{Adds}
use Rattle.ap_world.proofs.Taken.{TakenBy, taken}
use Rattle.ap_kernel.proofs.InductCore.{Descends, induct_core}

-- the replacement moves the measure of the actuals to that of the call
abbrev pub Moves : List Symbol → List Term → Moving → List Term → List Term → Type 0
Moves formals actuals moved m call = map (λ u. subst_of (moved call) (subst_of (zip formals actuals) u)) m ≡ map (λ u. subst_of (zip formals actuals) (subst_of (zip formals call) u)) m

module _ (D : Defs) (F : Symbol) (f : Function) (adds : Adds D D F f) (A : Apply) (models : Models D A) (has : HasNot A)
    (body_known : known D f.body ≡ true) (flat : is_unnested F f.body ≡ true)
    (m : List Term) (natural : (e : Env) → Each (IsNat A e) m)
    (c : List Term) (actuals : List Term) (moved : Moving) where
  abbrev rank : Env → List ℕ
  rank e = map (λ u. nat_of (val A (subst_of (zip f.formals actuals) u) e)) m

  rank_before : (e : Env) (us : List Term) → map (λ u. nat_of (val A (subst_of (zip f.formals actuals) u) e)) us ≡ map (λ u. nat_of (val A u (replaced A (zip f.formals actuals) e))) us
  rank_before e [] = refl
  rank_before e (u ∷ us) = let p = val_subst A (zip f.formals actuals) u e in let q = rank_before e us in λ i. nat_of (p i) ∷ q i

  map_two : (g : Term → Term) (w : Term → ℕ) (us : List Term) → map w (map g us) ≡ map (λ u. w (g u)) us
  map_two g w [] = refl
  map_two g w (u ∷ us) = ap (λ ys. w (g u) ∷ ys) (map_two g w us)

  -- the rank after the replacement is the call's measure at the actuals
  rank_after : (e : Env) (call : List Term) → Moves f.formals actuals moved m call
      → rank (replaced A (moved call) e) ≡ map (λ u. nat_of (val A u (replaced A (zip f.formals actuals) e))) (map (subst_of (zip f.formals call)) m)
  rank_after e call moves =
      first m ∙ sym (map_two (λ u. subst_of (moved call) (subst_of (zip f.formals actuals) u)) (λ u. nat_of (val A u e)) m) ∙ ap (map (λ u. nat_of (val A u e))) moves
      ∙ map_two (λ u. subst_of (zip f.formals actuals) (subst_of (zip f.formals call) u)) (λ u. nat_of (val A u e)) m ∙ last m
    where
      first : (us : List Term) → map (λ u. nat_of (val A (subst_of (zip f.formals actuals) u) (replaced A (moved call) e))) us
          ≡ map (λ u. nat_of (val A (subst_of (moved call) (subst_of (zip f.formals actuals) u)) e)) us
      first [] = refl
      first (u ∷ us) = let p = sym (val_subst A (moved call) (subst_of (zip f.formals actuals) u) e) in let q = first us in λ i. nat_of (p i) ∷ q i

      last : (us : List Term) → map (λ u. nat_of (val A (subst_of (zip f.formals actuals) (subst_of (zip f.formals call) u)) e)) us
          ≡ map (λ u. nat_of (val A u (replaced A (zip f.formals actuals) e))) (map (subst_of (zip f.formals call)) us)
      last [] = refl
      last (u ∷ us) = let p = val_subst A (zip f.formals actuals) (subst_of (zip f.formals call) u) e in let q = last us in λ i. nat_of (p i) ∷ q i

  call_nat : (e : Env) (call : List Term) (us : List Term) → Each (IsNat A (replaced A (zip f.formals call) e)) us → Each (IsNat A e) (map (subst_of (zip f.formals call)) us)
  call_nat e call [] h = tt
  call_nat e call (u ∷ us) h = (subst (λ v. v ≡ int (pos (nat_of v))) (sym (val_subst A (zip f.formals call) u e)) h.0, call_nat e call us h.1)

  -- one call of the case that the actuals' values take
  falls : (e : Env) (k : Case) (call : List Term) → AllTrue A (replaced A (zip f.formals actuals) e) k.tests → Valid D (decrease f.formals m k call) → Moves f.formals actuals moved m call
      → LexLess (rank (replaced A (moved call) e)) (rank e)
  falls e k call tests valid moves =
      let d = replaced A (zip f.formals actuals) e in
      let l = past_tests A has (replaced A (zip f.formals actuals) e) k.tests (less (map (subst_of (zip f.formals call)) m) m) tests (valid_is D A models (decrease f.formals m k call) valid (replaced A (zip f.formals actuals) e)) in
      let lower = less_is A (replaced A (zip f.formals actuals) e) (map (subst_of (zip f.formals call)) m) m
      (call_nat (replaced A (zip f.formals actuals) e) call m (natural (replaced A (zip f.formals call) (replaced A (zip f.formals actuals) e)))) (natural (replaced A (zip f.formals actuals) e)) l in
      subst (λ ns. LexLess ns (rank e)) (sym (rank_after e call moves))
      (subst (λ ns. LexLess (map (λ u. nat_of (val A u (replaced A (zip f.formals actuals) e))) (map (subst_of (zip f.formals call)) m)) ns) (sym (rank_before e m)) lower)

  descends : (e : Env) (k : Case) → TakenBy D D F f adds A models (replaced A (zip f.formals actuals) e) f.body k
      → Each (Valid D) (case_obligations f.formals m k) × Each (Moves f.formals actuals moved m) k.calls → Descends A has c f.formals actuals moved rank e k
  descends e k t owed = (
    t.tests,
    each_zip (λ call. Valid D (decrease f.formals m k call)) (Moves f.formals actuals moved m) (λ call. LexLess (rank (replaced A (moved call) e)) (rank e)) k.calls
        (λ call valid moves. falls e k call t.tests valid moves) (each_map (Valid D) (decrease f.formals m k) k.calls owed.0) owed.1,
  )

  pub induct_valid : Each (Valid D) (falling_obligations f.formals m (cases_of F f.body))
      → Each (λ k. Each (Moves f.formals actuals moved m) k.calls) (cases_of F f.body)
      → Each (Valid D) (induction c (zip f.formals actuals) moved (cases_of F f.body)) → (e : Env) → AnyTrue A e c
  induct_valid owed moves valid = induct_core A has c f.formals actuals moved (length m) rank (λ e. length-map m (λ u. nat_of (val A (subst_of (zip f.formals actuals) u) e))) (cases_of F f.body)
      (λ e. any_both (TakenBy D D F f adds A models (replaced A (zip f.formals actuals) e) f.body) (λ k. Each (Valid D) (case_obligations f.formals m k) × Each (Moves f.formals actuals moved m) k.calls)
      (Descends A has c f.formals actuals moved rank e) (cases_of F f.body) (descends e) (taken D D F f adds A models (replaced A (zip f.formals actuals) e) has f.body body_known flat)
      (each_zip (λ k. Each (Valid D) (case_obligations f.formals m k)) (λ k. Each (Moves f.formals actuals moved m) k.calls) (λ k. Each (Valid D) (case_obligations f.formals m k) × Each (Moves f.formals actuals moved m) k.calls)
      (cases_of F f.body) (λ k a b. (a, b)) (each_joined (Valid D) (case_obligations f.formals m) (cases_of F f.body) owed) moves))
      (each_same (induction c (zip f.formals actuals) moved (cases_of F f.body)) (λ ts v e. valid_is D A models ts v e) valid)
