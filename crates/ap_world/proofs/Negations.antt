-- Tests, their conjuncts and negations: where the tests hold, their clause gives its last literal.
use Rattle.std.proofs.Common.{◌≡◌, ◌≢◌, Bool, true, false, cond, List, [], ◌∷◌, ◌++◌, map, inl, inr, refl, sym, ap, ◌∙◌, subst}
use Rattle.ap_list.specs.Lists.{Each, joined}
use Rattle.ap_value.specs.declared.symbol.Symbol.{Symbol}
use Rattle.ap_value.specs.Values.{symbol_eq, value_eq}
use Rattle.ap_value.proofs.Equals.{symbol_eq-true}
use Rattle.ap_term.specs.declared.term.Term.{Term, Var, Quote, Call}
use Rattle.ap_term.proofs.Induction.{term_ind}
use Rattle.ap_world.specs.Names.{if_name, not_name}
use Rattle.ap_world.specs.Primitives.{nil, truth}
use Rattle.ap_world.specs.Meaning.{Env}
use Rattle.ap_world.specs.Clauses.{not_of, negated_part, negate, is_nil, if_parts, and_parts, conjuncts}
use Rattle.ap_world.specs.Recursion.{negated_tests}
use Rattle.ap_world.proofs.Knowing.{each_same}
use Rattle.ap_world.proofs.TotalMeaning.{Apply, val, AllTrue, AnyTrue}
use Rattle.ap_world.proofs.Equations.{val_if, not_nil-eq, eq-not_nil}
use Rattle.ap_world.proofs.Written.{negate_var, negate_quote, negate_call, conjuncts_var, conjuncts_quote, conjuncts_call}
use Rattle.ap_world.proofs.Adding.{each_append}
use Rattle.ap_world.proofs.Given.{constant_nil}
use Rattle.ap_world.proofs.Lists.{joined_each}

-- what a world's `not` gives
abbrev pub HasNot : Apply → Type 0
HasNot A = (a : Term) (e : Env) → val A (not_of a) e ≡ truth (value_eq (val A a e) nil)

pub true_conjuncts : (A : Apply) (e : Env) (u : Term) → val A u e ≢ nil → AllTrue A e (conjuncts u)
true_conjuncts A e = term_ind Below
    (λ x h. subst (AllTrue A e) (sym (conjuncts_var x)) (h, tt))
    (λ q h. subst (AllTrue A e) (sym (conjuncts_quote q)) (h, tt))
    (λ f ts es h. subst (AllTrue A e) (sym (conjuncts_call f ts)) (go f ts es (symbol_eq f if_name) refl h))
  where
    Below : Term → Type 0
    Below u = val A u e ≢ nil → AllTrue A e (conjuncts u)

    parts : (f : Symbol) (a b c : Term) → Below a → Below b → f ≡ if_name → is_nil c ≡ true → val A (Call f (a ∷ b ∷ c ∷ [])) e ≢ nil → AllTrue A e (conjuncts a ++ conjuncts b)
    parts f a b c below_a below_b is none h = pick (value_eq (val A a e) nil) refl
      where
        value : val A (Call f (a ∷ b ∷ c ∷ [])) e ≡ cond (value_eq (val A a e) nil) nil (val A b e)
        value = ap (λ g. val A (Call g (a ∷ b ∷ c ∷ [])) e) is ∙ val_if A a b c e ∙ ap (λ v. cond (value_eq (val A a e) nil) v (val A b e)) (constant_nil A e c none)

        pick : (t : Bool) → value_eq (val A a e) nil ≡ t → AllTrue A e (conjuncts a ++ conjuncts b)
        pick true k = absurd (h (value ∙ ap (λ t. cond t nil (val A b e)) k))
        pick false k = each_append (λ u. val A u e ≢ nil) (conjuncts a) (conjuncts b) (below_a (eq-not_nil (val A a e) k)) (below_b (λ same. h (value ∙ ap (λ t. cond t nil (val A b e)) k ∙ same)))

    three : (f : Symbol) (a b c : Term) → Below a → Below b → f ≡ if_name → val A (Call f (a ∷ b ∷ c ∷ [])) e ≢ nil → (t : Bool) → is_nil c ≡ t
        → AllTrue A e (cond t (conjuncts a ++ conjuncts b) (Call f (a ∷ b ∷ c ∷ []) ∷ []))
    three f a b c below_a below_b is h true none = parts f a b c below_a below_b is none h
    three f a b c below_a below_b is h false none = (h, tt)

    go : (f : Symbol) (ts : List Term) → Each Below ts → (b : Bool) → symbol_eq f if_name ≡ b → val A (Call f ts) e ≢ nil → AllTrue A e (and_parts (if_parts b (map (λ u. (u, conjuncts u)) ts)) (Call f ts ∷ []))
    go f ts es false is h = (h, tt)
    go f (a ∷ b ∷ c ∷ []) es true is h = three f a b c es.0 es.1.0 (symbol_eq-true f if_name is) h (is_nil c) refl
    go f ts es true is h = (h, tt)

module _ (A : Apply) (has : HasNot A) (e : Env) where
  not_not : (a : Term) → val A (not_of a) e ≢ nil → val A a e ≢ nil → ⊥
  not_not a h k = h (has a e ∙ ap truth (not_nil-eq (val A a e) k))

  pub not_both : (u : Term) → val A (negate u) e ≢ nil → val A u e ≢ nil → ⊥
  not_both = term_ind (λ u. val A (negate u) e ≢ nil → val A u e ≢ nil → ⊥)
      (λ x h k. not_not (Var x) (subst (λ u. val A u e ≢ nil) (negate_var x) h) k)
      (λ q h k. not_not (Quote q) (subst (λ u. val A u e ≢ nil) (negate_quote q) h) k)
      (λ f ts es h k. call f ts (symbol_eq f not_name) refl (subst (λ u. val A u e ≢ nil) (negate_call f ts) h) k)
    where
      call : (f : Symbol) (ts : List Term) (b : Bool) → symbol_eq f not_name ≡ b → val A (negated_part b ts (Call f ts)) e ≢ nil → val A (Call f ts) e ≢ nil → ⊥
      call f ts false is h k = not_not (Call f ts) h k
      call f (a ∷ []) true is h k = not_not a (subst (λ g. val A (Call g (a ∷ [])) e ≢ nil) (symbol_eq-true f not_name is) k) h
      call f ts true is h k = not_not (Call f ts) h k

  pub pass : (cs ls : List Term) → AllTrue A e cs → AnyTrue A e (map negate cs ++ ls) → AnyTrue A e ls
  pass [] ls h k = k
  pass (c ∷ cs) ls h (inl k) = absurd (not_both c k h.0)
  pass (c ∷ cs) ls h (inr k) = pass cs ls h.1 k

  pub only : (l : Term) → AnyTrue A e (l ∷ []) → val A l e ≢ nil
  only l (inl k) = k
  only l (inr k) = absurd k

  -- where the tests hold, so does what their clause ends with
  pub past_tests : (ts : List Term) (l : Term) → AllTrue A e ts → AnyTrue A e (negated_tests ts ++ l ∷ []) → val A l e ≢ nil
  past_tests ts l h k = only l (pass (joined (map conjuncts ts)) (l ∷ []) (joined_each (λ u. val A u e ≢ nil) conjuncts ts (each_same ts (true_conjuncts A e) h)) k)
