-- Elimination reduces: a value is no cons, or it is the cons of its parts.
use Rattle.std.proofs.Common.{◌≡◌, ◌≢◌, Bool, true, false, cond, List, [], ◌∷◌, ◌++◌, Option, Some, None, ◌⊎◌, inl, inr, refl, ap, sym, ◌∙◌, subst}
use Rattle.ap_list.specs.Lists.{Each, with_first}
use Rattle.ap_value.specs.declared.symbol.Symbol.{Symbol}
use Rattle.ap_value.specs.Values.{V, int, chr, str, sym as symbol, cons, symbol_eq, value_eq}
use Rattle.ap_value.proofs.Equals.{value_eq-same}
use Rattle.ap_term.specs.declared.term.Term.{Term, Var}
use Rattle.ap_term.specs.Equal.{term_eq}
use Rattle.ap_term.proofs.Equals.{term_eq-true}
use Rattle.ap_term.specs.declared.term.Clause.{Clause}
use Rattle.ap_world.specs.Primitives.{nil, truth, is_cons, car_of, cdr_of}
use Rattle.ap_world.specs.Meaning.{Env, value_at, Defs, Total, Valid}
use Rattle.ap_world.specs.Clauses.{not_of}
use Rattle.ap_world.specs.Sound.{known}
use Rattle.ap_world.proofs.Knowing.{true_each}
use Rattle.ap_world.proofs.TotalMeaning.{Apply, Models, models, val, val_var, AnyTrue, valid_is, valid_of}
use Rattle.ap_world.proofs.Equations.{knowing, val_consp, val_cons, val_car, val_cdr, t_isnt_nil}
use Rattle.ap_world.proofs.Starting.{val_not}
use Rattle.ap_kernel.specs.Standing.{DefinesNot}
use Rattle.ap_kernel.specs.Reductions.{KnownClause, Follows}
use Rattle.ap_kernel.specs.Solving.{occurs_in}
use Rattle.ap_kernel.proofs.Reduced.{any_left, any_right, any_either, each_append, each_parts}
use Rattle.ap_kernel.specs.Eliminating.{consp_term, taken_apart, reduced, without_first, elim_goals, eliminated}
use Rattle.ap_kernel.proofs.PartsSwapped.{SameAt, PairsMean, any_swapped, each_swapped, New, each_new, new_apart, at_self, at_other}

-- a cons is the cons of its parts
cons_again : (w : V) → is_cons w ≡ true → w ≡ cons (car_of w) (cdr_of w)
cons_again (cons a b) h = refl
cons_again (int n) h = cc
cons_again (chr c) h = cc
cons_again (str s) h = cc
cons_again (symbol k s) h = cc

-- where the first such element stands
abbrev Around : Term → List Term → List Term → Type 0
Around u ts rest = (xs : List Term) × (ys : List Term) × (ts ≡ xs ++ u ∷ ys) × (rest ≡ xs ++ ys)

around : (u : Term) (ts rest : List Term) → without_first u ts ≡ Some rest → Around u ts rest
around u [] rest h = cc
around u (w ∷ ws) rest h = go (term_eq u w) refl (without_first u ws) refl (around u ws) h
  where
    go : (b : Bool) → term_eq u w ≡ b → (o : Option (List Term)) → without_first u ws ≡ o → ((us : List Term) → without_first u ws ≡ Some us → Around u ws us)
        → cond b (Some ws) (with_first w o) ≡ Some rest → Around u (w ∷ ws) rest
    go true q o r later l = let same : ws ≡ rest = cc in ([], ws, ap (λ z. z ∷ ws) (sym (term_eq-true u w q)), sym same)
    go false q None r later l = cc
    go false q (Some us) r later l =
        let same : w ∷ us ≡ rest = cc in
        let p = later us r in
        (w ∷ p.0, p.1, ap (λ zs. w ∷ zs) p.2, sym same ∙ ap (λ zs. w ∷ zs) p.3)

module _ (D : Defs) (A : Apply) (ms : Models D A) (ground : DefinesNot D) (v a b : Symbol) (apart : symbol_eq b a ≡ false) where
  consp_val : (e : Env) → val A (consp_term v) e ≡ truth (is_cons (value_at e v))
  consp_val e = val_consp A (Var v) e ∙ ap (λ w. truth (is_cons w)) (val_var A v e)

  -- the new variables have the parts of v's value
  parts_at : Env → Env
  parts_at e = (a, car_of (value_at e v)) ∷ (b, cdr_of (value_at e v)) ∷ e

  first_at : (e : Env) → val A (Var a) (parts_at e) ≡ car_of (value_at e v)
  unfolding parts_at
  first_at e = val_var A a (parts_at e) ∙ at_self a (car_of (value_at e v)) ((b, cdr_of (value_at e v)) ∷ e)

  second_at : (e : Env) → val A (Var b) (parts_at e) ≡ cdr_of (value_at e v)
  unfolding parts_at
  second_at e = val_var A b (parts_at e) ∙ at_other a b (car_of (value_at e v)) ((b, cdr_of (value_at e v)) ∷ e) apart ∙ at_self b (cdr_of (value_at e v)) e

  pairs_mean : (e : Env) → is_cons (value_at e v) ≡ true → PairsMean A e (parts_at e) (taken_apart v a b)
  pairs_mean e h = (
    first_at e ∙ sym (val_car A (Var v) e ∙ ap car_of (val_var A v e)),
    (
      second_at e ∙ sym (val_cdr A (Var v) e ∙ ap cdr_of (val_var A v e)),
      (
        val_cons A (Var a) (Var b) (parts_at e) ∙ ap (λ w. cons w (val A (Var b) (parts_at e))) (first_at e) ∙ ap (cons (car_of (value_at e v))) (second_at e)
            ∙ sym (val_var A v e ∙ cons_again (value_at e v) h),
        tt,
      ),
    ),
  )

  same_at : (e : Env) (u : Term) → New a u → New b u → SameAt e (parts_at e) u
  unfolding parts_at
  same_at e u na nb x o =
      at_other a x (car_of (value_at e v)) ((b, cdr_of (value_at e v)) ∷ e) (new_apart a x u na o) ∙ at_other b x (cdr_of (value_at e v)) e (new_apart b x u nb o)

  any_reduced : (e : Env) → is_cons (value_at e v) ≡ true → (ts : List Term) → Each (New a) ts → Each (New b) ts → AnyTrue A (parts_at e) (reduced (taken_apart v a b) ts) → AnyTrue A e ts
  any_reduced e h ts na nb k = any_swapped A e (parts_at e) (taken_apart v a b) (pairs_mean e h) ts (all ts na nb) k
    where
      all : (ts : List Term) → Each (New a) ts → Each (New b) ts → Each (SameAt e (parts_at e)) ts
      all [] na nb = tt
      all (u ∷ us) na nb = (same_at e u na.0 nb.0, all us na.1 nb.1)

  no_cons : (e : Env) → is_cons (value_at e v) ≡ false → val A (consp_term v) e ≡ nil
  no_cons e q = consp_val e ∙ ap truth q

  not_consp : (e : Env) → is_cons (value_at e v) ≡ false → val A (not_of (consp_term v)) e ≢ nil
  not_consp e q z =
      t_isnt_nil (sym (val_not D A ms ground (consp_term v) e ∙ ap (λ w. truth (value_eq w nil)) (no_cons e q) ∙ ap truth (value_eq-same nil)) ∙ z)

  -- one child: the literal is dropped
  one_child : (ts rest : List Term) → Around (not_of (consp_term v)) ts rest → Each (New a) rest → Each (New b) rest → Valid D (reduced (taken_apart v a b) rest) → (e : Env) → AnyTrue A e ts
  one_child ts rest (xs, ys, whole, left) na nb valid e = subst (AnyTrue A e) (sym whole) (go (is_cons (value_at e v)) refl)
    where
      lit : Term
      lit = not_of (consp_term v)

      back : AnyTrue A e xs ⊎ AnyTrue A e ys → AnyTrue A e (xs ++ not_of (consp_term v) ∷ ys)
      back (inl h) = any_left (λ u. val A u e ≢ nil) xs (not_of (consp_term v) ∷ ys) h
      back (inr h) = any_right (λ u. val A u e ≢ nil) xs (not_of (consp_term v) ∷ ys) (inr h)

      go : (c : Bool) → is_cons (value_at e v) ≡ c → AnyTrue A e (xs ++ not_of (consp_term v) ∷ ys)
      go true q =
          back (any_either (λ u. val A u e ≢ nil) xs ys (subst (AnyTrue A e) left (any_reduced e q rest na nb (valid_is D A ms (reduced (taken_apart v a b) rest) valid (parts_at e)))))
      go false q = any_right (λ u. val A u e ≢ nil) xs (not_of (consp_term v) ∷ ys) (inl (not_consp e q))

  -- two children
  two_children : (ts : List Term) → Each (New a) ts → Each (New b) ts → Valid D (consp_term v ∷ ts) → Valid D (reduced (taken_apart v a b) ts) → (e : Env) → AnyTrue A e ts
  two_children ts na nb other valid e = go (is_cons (value_at e v)) refl (valid_is D A ms (consp_term v ∷ ts) other e)
    where
      go : (c : Bool) → is_cons (value_at e v) ≡ c → AnyTrue A e (consp_term v ∷ ts) → AnyTrue A e ts
      go true q h = any_reduced e q ts na nb (valid_is D A ms (reduced (taken_apart v a b) ts) valid (parts_at e))
      go false q (inl h) = absurd (h (no_cons e q))
      go false q (inr h) = h

known_consp : (D : Defs) (v : Symbol) → known D (consp_term v) ≡ true
known_consp D v = simp knowing refl

known_parts : (D : Defs) (v a b : Symbol) → Each (λ (p : Term × Term). known D p.1 ≡ true) (taken_apart v a b)
known_parts D v a b = (simp knowing refl, (simp knowing refl, (simp knowing refl, tt)))

-- what holds of each literal holds of each other literal
each_around : (P : Term → Type 0) (u : Term) (ts rest : List Term) → Around u ts rest → Each P ts → Each P rest
each_around P u ts rest (xs, ys, whole, left) h =
    let p = each_parts P xs (u ∷ ys) (subst (Each P) whole h) in
    subst (Each P) (sym left) (each_append P xs ys p.0 p.1.1)

pub eliminated_follows : (D : Defs) → Total D → DefinesNot D → (c : Clause) (v a b : Symbol) → KnownClause D c
    → occurs_in a c.0 ≡ false → occurs_in b c.0 ≡ false → symbol_eq b a ≡ false → Follows D (eliminated c v a b)
eliminated_follows D total ground c v a b k na nb apart = go (without_first (not_of (consp_term v)) c.0) refl
  where
    known_reduced : (ts : List Term) → Each (λ u. known D u ≡ true) ts → Each (λ u. known D u ≡ true) (reduced (taken_apart v a b) ts)
    known_reduced ts ks = each_swapped D (taken_apart v a b) (known_parts D v a b) ts ks

    go : (o : Option (List Term)) → without_first (not_of (consp_term v)) c.0 ≡ o → Follows D (record { from = c; to = elim_goals (taken_apart v a b) v c.0 o })
    go None q =
        let (A, ms) = models D total in
        record {
          start = k;
          goals = ((known_consp D v, k), (known_reduced c.0 k, tt));
          valid = λ h. valid_of D A ms c.0 (true_each (known D) c.0 k) (λ e. two_children D A ms ground v a b apart c.0 (each_new a c.0 na) (each_new b c.0 nb) h.0 h.1.0 e);
        }
    go (Some rest) q =
        let (A, ms) = models D total in
        let ar = around (not_of (consp_term v)) c.0 rest q in
        record {
          start = k;
          goals = (known_reduced rest (each_around (λ u. known D u ≡ true) (not_of (consp_term v)) c.0 rest ar k), tt);
          valid = λ h. valid_of D A ms c.0 (true_each (known D) c.0 k) (λ e. one_child D A ms ground v a b apart c.0 rest ar
              (each_around (New a) (not_of (consp_term v)) c.0 rest ar (each_new a c.0 na))
              (each_around (New b) (not_of (consp_term v)) c.0 rest ar (each_new b c.0 nb)) h.0 e);
        }
