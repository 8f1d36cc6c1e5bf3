-- The case that an assignment takes: its tests hold, and the body has a value where its calls have.
use Rattle.std.proofs.Common.{◌≡◌, Bool, true, false, ◌&&◌, cond, List, [], ◌∷◌, ◌++◌, map, length, inl, refl, sym, ap, ◌∙◌, subst}
use Rattle.ap_list.specs.Lists.{Each, AnyOf, joined}
use Rattle.ap_value.specs.declared.symbol.Symbol.{Symbol}
use Rattle.ap_value.specs.Values.{V, val_of, symbol_eq, value_eq}
use Rattle.ap_value.proofs.Equals.{both, symbol_eq-true}
use Rattle.ap_term.specs.declared.term.Term.{Term, Var, Quote, Call}
use Rattle.ap_term.proofs.Induction.{term_ind}
use Rattle.ap_world.specs.declared.entry.Case.{Case}
use Rattle.ap_world.specs.declared.entry.Function.{Function}
use Rattle.ap_world.specs.Names.{if_name}
use Rattle.ap_world.specs.Primitives.{nil, truth, prim_of}
use Rattle.ap_world.specs.Meaning.{Env, value_at, Defs, calls, HasValue}
use Rattle.ap_world.specs.Clauses.{not_of, if_parts}
use Rattle.ap_world.specs.Recursion.{own_call, calls_in, has_no_call, at_branches, with_test, two_cases, one_case, cases_of, has_flat_calls, clear_test, is_unnested}
use Rattle.ap_world.specs.Sound.{is_head, known}
use Rattle.ap_world.proofs.Fuel.{meaning_var, meaning_quote}
use Rattle.ap_world.proofs.Knowing.{known_head, known_args, each_true}
use Rattle.ap_world.proofs.TotalMeaning.{Apply, Models, AllTrue, val, val_is}
use Rattle.ap_world.proofs.Equations.{eq-not_nil, t_isnt_nil}
use Rattle.ap_world.proofs.Extending.{value_extend, call_extend}
use Rattle.ap_world.proofs.Written.{calls_call, cases_var, cases_quote, cases_call, unnested_call}
use Rattle.ap_world.proofs.Lists.{any_left, any_right, any_map, each_left, each_right, each_joined}
use Rattle.ap_world.proofs.Repeats.{of_distinct}
use Rattle.ap_world.proofs.Negations.{HasNot}
use Rattle.ap_world.proofs.Ready.{ready_head, gather, gathered_length, call_value, if_then, if_else}
use Rattle.ap_world.proofs.Cases.{Adds, clear}

abbrev pub CallValued : Defs → Symbol → Env → List Term → Type 0
CallValued E F e c = (v : V) × HasValue E (Call F c) e v

abbrev pub CallsValued : Defs → Symbol → Env → List (List Term) → Type 0
CallsValued E F e = Each (CallValued E F e)

module _ (D E : Defs) (F : Symbol) (f : Function) (adds : Adds D E F f) (A : Apply) (models : Models D A) (e : Env) where
  -- where all calls of F have values, the term has one
  leaf : (u : Term) → known E u ≡ true → CallsValued E F e (calls_in F u) → (v : V) × HasValue E u e v
  leaf = term_ind Below
      (λ x k h. (value_at e x, (0, meaning_var (calls 0 E) x e)))
      (λ q k h. (val_of q, (0, meaning_quote (calls 0 E) q e)))
      (λ g ts es k h. go g ts es k (subst (CallsValued E F e) (calls_call F g ts) h) (symbol_eq g F) refl)
    where
      Below : Term → Type 0
      Below u = known E u ≡ true → CallsValued E F e (calls_in F u) → (v : V) × HasValue E u e v

      args : (ts : List Term) → Each Below ts → Each (λ u. known E u ≡ true) ts → Each (λ u. CallsValued E F e (calls_in F u)) ts → Each (λ u. (v : V) × HasValue E u e v) ts
      args [] es ks h = tt
      args (t ∷ ts) es ks h = (es.0 ks.0 h.0, args ts es.1 ks.1 h.1)

      other : (g : Symbol) (ts : List Term) → symbol_eq g F ≡ false → is_head E g (prim_of g) (length ts) ≡ true → Each (λ u. (v : V) × HasValue E u e v) ts → (v : V) × HasValue E (Call g ts) e v
      other g ts is k vs =
          let (ws, (n, ps)) = gather E e ts vs in
          let (v, r) = ready_head E g ws (subst (λ n. is_head E g (prim_of g) n ≡ true) (sym (gathered_length E e n ts ws ps)) k)
          (λ h no_prim here l. (A g ws, call_extend D E adds.extends g ws (A g ws) (models g h ws (sym (adds.only g is) ∙ here) l))) in
          (v, call_value E e g ts ws n v ps r)

      go : (g : Symbol) (ts : List Term) → Each Below ts → known E (Call g ts) ≡ true → CallsValued E F e (own_call F g ts ++ joined (map (calls_in F) ts)) → (b : Bool) → symbol_eq g F ≡ b
          → (v : V) × HasValue E (Call g ts) e v
      go g ts es k h true is =
          let own : CallsValued E F e (cond (symbol_eq g F) (ts ∷ []) []) = each_left (CallValued E F e) (own_call F g ts) (joined (map (calls_in F) ts)) h in
          let first : CallsValued E F e (ts ∷ []) = subst (λ b. CallsValued E F e (cond b (ts ∷ []) [])) is own in
          subst (λ x. (v : V) × HasValue E (Call x ts) e v) (sym (symbol_eq-true g F is)) first.0
      go g ts es k h false is =
          let below = each_joined (CallValued E F e) (calls_in F) ts (each_right (CallValued E F e) (own_call F g ts) (joined (map (calls_in F) ts)) h) in
          other g ts is (known_head E g ts k) (args ts es (each_true (known E) ts (known_args E g ts k)) below)

  -- the tests of k hold, and u has a value where k's calls have
  pub record TakenBy (u : Term) (k : Case) : Type 0 where
    pub tests : AllTrue A e k.tests
    pub value : CallsValued E F e k.calls → (v : V) × HasValue E u e v

  module _ (has : HasNot A) where
    alone : (u : Term) → known E u ≡ true → AnyOf (TakenBy u) (one_case F u)
    alone u k = inl (record { tests = tt; value = λ h. leaf u k (of_distinct (CallValued E F e) [] (calls_in F u) tt h) })

    then_taken : (g : Symbol) (a b c : Term) → g ≡ if_name → known D a ≡ true → value_eq (val A a e) nil ≡ false → (k : Case) → TakenBy b k → TakenBy (Call g (a ∷ b ∷ c ∷ [])) (with_test a k)
    then_taken g a b c is known_a h k r = record {
      tests = (eq-not_nil (val A a e) h, r.tests);
      value = λ vs. let v = r.value vs in (v.0, if_then E e g a b c (val A a e) v.0 is (value_extend D E adds.extends a e (val A a e) (val_is D A models a known_a e)) h v.1);
    }

    else_taken : (g : Symbol) (a b c : Term) → g ≡ if_name → known D a ≡ true → value_eq (val A a e) nil ≡ true → (k : Case) → TakenBy c k → TakenBy (Call g (a ∷ b ∷ c ∷ [])) (with_test (not_of a) k)
    else_taken g a b c is known_a h k r = record {
      tests = (λ same. t_isnt_nil (ap truth (sym h) ∙ sym (has a e) ∙ same), r.tests);
      value = λ vs. let v = r.value vs in (v.0, if_else E e g a b c (val A a e) v.0 is (value_extend D E adds.extends a e (val A a e) (val_is D A models a known_a e)) h v.1);
    }

    pub taken : (u : Term) → known E u ≡ true → is_unnested F u ≡ true → AnyOf (TakenBy u) (cases_of F u)
    taken = term_ind Below
        (λ x k n. subst (AnyOf (TakenBy (Var x))) (sym (cases_var F x)) (alone (Var x) k))
        (λ q k n. subst (AnyOf (TakenBy (Quote q))) (sym (cases_quote F q)) (alone (Quote q) k))
        (λ g ts es k n. subst (AnyOf (TakenBy (Call g ts))) (sym (cases_call F g ts)) (go g ts es k (symbol_eq g if_name) refl (sym (unnested_call F g ts) ∙ n)))
      where
        Below : Term → Type 0
        Below u = known E u ≡ true → is_unnested F u ≡ true → AnyOf (TakenBy u) (cases_of F u)

        three : (g : Symbol) (a b c : Term) → Below b → Below c → known E (Call g (a ∷ b ∷ c ∷ [])) ≡ true → g ≡ if_name → (t : Bool)
            → cond t (has_flat_calls F (calls_in F (Call g (a ∷ b ∷ c ∷ [])))) (clear_test F a (is_unnested F b) (is_unnested F c)) ≡ true
            → AnyOf (TakenBy (Call g (a ∷ b ∷ c ∷ []))) (cond t (one_case F (Call g (a ∷ b ∷ c ∷ []))) (two_cases a (cases_of F b) (cases_of F c)))
        three g a b c below_b below_c k is true n = alone (Call g (a ∷ b ∷ c ∷ [])) k
        three g a b c below_b below_c k is false n = pick (value_eq (val A a e) nil) refl
          where
            p : (has_no_call F a ≡ true) × ((is_unnested F b && is_unnested F c) ≡ true)
            p = both (has_no_call F a) (is_unnested F b && is_unnested F c) n

            q : (is_unnested F b ≡ true) × (is_unnested F c ≡ true)
            q = both (is_unnested F b) (is_unnested F c) p.1

            ks : Each (λ u. known E u ≡ true) (a ∷ b ∷ c ∷ [])
            ks = each_true (known E) (a ∷ b ∷ c ∷ []) (known_args E g (a ∷ b ∷ c ∷ []) k)

            known_a : known D a ≡ true
            known_a = clear D E F f adds a p.0 ks.0

            pick : (t : Bool) → value_eq (val A a e) nil ≡ t → AnyOf (TakenBy (Call g (a ∷ b ∷ c ∷ []))) (two_cases a (cases_of F b) (cases_of F c))
            pick true h = any_right _ (map (with_test a) (cases_of F b)) _ (any_map (TakenBy c) _ (with_test (not_of a)) (cases_of F c) (else_taken g a b c is known_a h) (below_c ks.1.1.0 q.1))
            pick false h = any_left _ (map (with_test a) (cases_of F b)) _ (any_map (TakenBy b) _ (with_test a) (cases_of F b) (then_taken g a b c is known_a h) (below_b ks.1.0 q.0))

        go : (g : Symbol) (ts : List Term) → Each Below ts → known E (Call g ts) ≡ true → (b : Bool) → symbol_eq g if_name ≡ b
            → at_branches F (clear_test F) (has_flat_calls F (calls_in F (Call g ts))) (if_parts b (map (λ u. (u, is_unnested F u)) ts)) ≡ true
            → AnyOf (TakenBy (Call g ts)) (at_branches F two_cases (one_case F (Call g ts)) (if_parts b (map (λ u. (u, cases_of F u)) ts)))
        go g ts es k false is n = alone (Call g ts) k
        go g (a ∷ b ∷ c ∷ []) es k true is n = three g a b c es.1.0 es.1.1.0 k (symbol_eq-true g if_name is) (has_no_call F b && has_no_call F c) n
        go g ts es k true is n = alone (Call g ts) k
