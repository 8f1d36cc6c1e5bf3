-- In a sound world a term isn't nil where some literal of its clause isn't.
use Rattle.std.proofs.Common.{◌≡◌, ◌≢◌, Bool, true, false, cond, not, List, [], ◌∷◌, ◌++◌, map, ◌⊎◌, inl, inr, refl, ap, sym, ◌∙◌, subst}
use Rattle.ap_list.specs.Lists.{Each}
use Rattle.ap_value.specs.declared.symbol.Symbol.{Symbol}
use Rattle.ap_value.specs.declared.value.Value.{Value}
use Rattle.ap_value.specs.Values.{V, symbol_eq, value_eq}
use Rattle.ap_value.proofs.Equals.{symbol_eq-true, value_eq-same}
use Rattle.ap_term.specs.declared.term.Term.{Term, Var, Quote, Call}
use Rattle.ap_term.specs.declared.term.Clause.{Clause}
use Rattle.ap_term.proofs.Induction.{term_ind}
use Rattle.ap_world.specs.declared.entry.Entry.{Entry}
use Rattle.ap_world.specs.Names.{if_name, implies_name}
use Rattle.ap_world.specs.Primitives.{nil, t}
use Rattle.ap_world.specs.Meaning.{Env, Defs, Valid}
use Rattle.ap_world.specs.Clauses.{negate, is_nil, conjuncts, flat}
use Rattle.ap_world.specs.World.{function_of}
use Rattle.ap_world.specs.Sound.{known, Sound}
use Rattle.ap_world.proofs.Knowing.{known_args, each_true, true_each}
use Rattle.ap_world.proofs.TotalMeaning.{Apply, Models, models, val, AnyTrue, valid_is, valid_of}
use Rattle.ap_world.proofs.Equations.{val_if, nil-eq, t_isnt_nil}
use Rattle.ap_world.proofs.Written.{conjuncts_var, conjuncts_quote, flat_var, flat_quote}
use Rattle.ap_world.proofs.Given.{conjuncts_at, conjuncts_called, constant_nil, implies_is}
use Rattle.ap_kernel.specs.Standing.{DefinesNot}
use Rattle.ap_kernel.proofs.ChoicesStand.{known_not}
use Rattle.ap_kernel.proofs.Reduced.{any_either, each_append}
use Rattle.ap_kernel.proofs.Splitting.{negate_turns, negate_known}
use Rattle.ap_clausify.specs.Flattening.{Clausifies}
use Rattle.ap_clausify.proofs.Flattened.{negations_append, flat_at, flat_called}

no : {P : Type 0} → false ≡ true → P
no h = cc

-- what is known of the negations and of the clause
negations_known : (D : Defs) → DefinesNot D → (u : Term) → known D u ≡ true → Each (λ w. known D w ≡ true) (map negate (conjuncts u))
negations_known D ground = term_ind Goal variable quoted call
  where
    Goal : Term → Type 0
    Goal u = known D u ≡ true → Each (λ w. known D w ≡ true) (map negate (conjuncts u))

    alone : (u : Term) → known D u ≡ true → Each (λ w. known D w ≡ true) (map negate (u ∷ []))
    alone u k = (negate_known D (known_not D ground) u k, tt)

    variable : (x : Symbol) → Goal (Var x)
    variable x k = rw (conjuncts_var x) (alone (Var x) k)

    quoted : (v : Value) → Goal (Quote v)
    quoted v k = rw (conjuncts_quote v) (alone (Quote v) k)

    both : (z : Bool) (a b u : Term) → Goal a → Goal b → known D a ≡ true → known D b ≡ true → known D u ≡ true
        → Each (λ w. known D w ≡ true) (map negate (cond z (conjuncts a ++ conjuncts b) (u ∷ [])))
    both true a b u ga gb ka kb k =
        rw (negations_append (conjuncts a) (conjuncts b)) (each_append (λ w. known D w ≡ true) (map negate (conjuncts a)) (map negate (conjuncts b)) (ga ka) (gb kb))
    both false a b u ga gb ka kb k = alone u k

    go : (x : Bool) (f : Symbol) (ts : List Term) → Each Goal ts → known D (Call f ts) ≡ true → Each (λ w. known D w ≡ true) (map negate (conjuncts_at x ts (Call f ts)))
    go true f (a ∷ b ∷ c ∷ []) es k =
        let ks = each_true (known D) (a ∷ b ∷ c ∷ []) (known_args D f (a ∷ b ∷ c ∷ []) k) in
        both (is_nil c) a b (Call f (a ∷ b ∷ c ∷ [])) es.0 es.1.0 ks.0 ks.1.0 k
    go x f ts es k = alone (Call f ts) k

    call : (f : Symbol) (ts : List Term) → Each Goal ts → Goal (Call f ts)
    call f ts es k = rw (conjuncts_called f ts) (go (symbol_eq f if_name) f ts es k)

flat_known : (D : Defs) → DefinesNot D → (u : Term) → known D u ≡ true → Each (λ w. known D w ≡ true) (flat u)
flat_known D ground = term_ind Goal variable quoted call
  where
    Goal : Term → Type 0
    Goal u = known D u ≡ true → Each (λ w. known D w ≡ true) (flat u)

    variable : (x : Symbol) → Goal (Var x)
    variable x k = rw (flat_var x) (k, tt)

    quoted : (v : Value) → Goal (Quote v)
    quoted v k = rw (flat_quote v) (k, tt)

    go : (x : Bool) (f : Symbol) (ts : List Term) → Each Goal ts → known D (Call f ts) ≡ true → Each (λ w. known D w ≡ true) (flat_at x ts (Call f ts))
    go true f (h ∷ c ∷ []) es k =
        let ks = each_true (known D) (h ∷ c ∷ []) (known_args D f (h ∷ c ∷ []) k) in
        each_append (λ w. known D w ≡ true) (map negate (conjuncts h)) (flat c) (negations_known D ground h ks.0) (es.1.0 ks.1.0)
    go x f ts es k = (k, tt)

    call : (f : Symbol) (ts : List Term) → Each Goal ts → Goal (Call f ts)
    call f ts es k = rw (flat_called f ts) (go (symbol_eq f implies_name) f ts es k)

module _ (D : Defs) (A : Apply) (ms : Models D A) (ground : DefinesNot D) (e : Env) where
  negation_true : (u : Term) → val A (negate u) e ≢ nil → val A u e ≡ nil
  negation_true u h = go (value_eq (val A u e) nil) refl
    where
      go : (b : Bool) → value_eq (val A u e) nil ≡ b → val A u e ≡ nil
      go true q = nil-eq (val A u e) q
      go false q = absurd (h (nil-eq (val A (negate u) e) (negate_turns D A ms ground e u ∙ ap not q)))

  -- a term is nil where the negation of one of its conjuncts isn't
  pub refuted : (u : Term) → AnyTrue A e (map negate (conjuncts u)) → val A u e ≡ nil
  refuted = term_ind Goal variable quoted call
    where
      Goal : Term → Type 0
      Goal u = AnyTrue A e (map negate (conjuncts u)) → val A u e ≡ nil

      alone : (u : Term) → AnyTrue A e (map negate (u ∷ [])) → val A u e ≡ nil
      alone u (inl h) = negation_true u h
      alone u (inr h) = absurd h

      variable : (x : Symbol) → Goal (Var x)
      variable x = rw (conjuncts_var x) (alone (Var x))

      quoted : (v : Value) → Goal (Quote v)
      quoted v = rw (conjuncts_quote v) (alone (Quote v))

      first : (x y z : V) → x ≡ nil → z ≡ nil → cond (value_eq x nil) z y ≡ nil
      first x y z h k = ap (λ v. cond (value_eq v nil) z y) h ∙ ap (λ b. cond b z y) (value_eq-same nil) ∙ k

      second : (x y z : V) → y ≡ nil → z ≡ nil → cond (value_eq x nil) z y ≡ nil
      second x y z h k = go (value_eq x nil)
        where
          go : (b : Bool) → cond b z y ≡ nil
          go true = k
          go false = h

      both : (a b c : Term) → Goal a → Goal b → is_nil c ≡ true → AnyTrue A e (map negate (conjuncts a)) ⊎ AnyTrue A e (map negate (conjuncts b)) → val A (Call if_name (a ∷ b ∷ c ∷ [])) e ≡ nil
      both a b c ga gb q (inl h) = val_if A a b c e ∙ first (val A a e) (val A b e) (val A c e) (ga h) (constant_nil A e c q)
      both a b c ga gb q (inr h) = val_if A a b c e ∙ second (val A a e) (val A b e) (val A c e) (gb h) (constant_nil A e c q)

      parts : (z : Bool) (a b c : Term) → Goal a → Goal b → is_nil c ≡ z → AnyTrue A e (map negate (cond z (conjuncts a ++ conjuncts b) (Call if_name (a ∷ b ∷ c ∷ []) ∷ []))) → val A (Call if_name (a ∷ b ∷ c ∷ [])) e ≡ nil
      parts true a b c ga gb q h =
          both a b c ga gb q (any_either (λ u. val A u e ≢ nil) (map negate (conjuncts a)) (map negate (conjuncts b)) (subst (AnyTrue A e) (negations_append (conjuncts a) (conjuncts b)) h))
      parts false a b c ga gb q h = alone (Call if_name (a ∷ b ∷ c ∷ [])) h

      go : (x : Bool) (f : Symbol) (ts : List Term) → symbol_eq f if_name ≡ x → Each Goal ts → AnyTrue A e (map negate (conjuncts_at x ts (Call f ts))) → val A (Call f ts) e ≡ nil
      go true f (a ∷ b ∷ c ∷ []) q es =
          subst (λ g. AnyTrue A e (map negate (cond (is_nil c) (conjuncts a ++ conjuncts b) (Call g (a ∷ b ∷ c ∷ []) ∷ []))) → val A (Call g (a ∷ b ∷ c ∷ [])) e ≡ nil)
          (sym (symbol_eq-true f if_name q)) (parts (is_nil c) a b c es.0 es.1.0 refl)
      go x f ts q es = alone (Call f ts)

      call : (f : Symbol) (ts : List Term) → Each Goal ts → Goal (Call f ts)
      call f ts es = rw (conjuncts_called f ts) (go (symbol_eq f if_name) f ts refl es)

-- a term isn't nil where a literal of its clause isn't
flat_true : (W : List Entry) → Sound W → DefinesNot (function_of W) → (A : Apply) → Models (function_of W) A → (e : Env) (u : Term) → known (function_of W) u ≡ true → AnyTrue A e (flat u) → val A u e ≢ nil
flat_true W sound ground A ms e = term_ind Goal variable quoted call
  where
    Goal : Term → Type 0
    Goal u = known (function_of W) u ≡ true → AnyTrue A e (flat u) → val A u e ≢ nil

    alone : (u : Term) → AnyTrue A e (u ∷ []) → val A u e ≢ nil
    alone u (inl h) = h
    alone u (inr h) = absurd h

    variable : (x : Symbol) → Goal (Var x)
    variable x k = rw (flat_var x) (alone (Var x))

    quoted : (v : Value) → Goal (Quote v)
    quoted v k = rw (flat_quote v) (alone (Quote v))

    refuted_true : (x y : V) → x ≡ nil → cond (value_eq x nil) t (cond (value_eq y nil) nil t) ≢ nil
    refuted_true x y h = subst (λ v. cond (value_eq v nil) t (cond (value_eq y nil) nil t) ≢ nil) (sym h) (subst (λ b. cond b t (cond (value_eq y nil) nil t) ≢ nil) (sym (value_eq-same nil)) t_isnt_nil)

    shown_true : (x y : V) → y ≢ nil → cond (value_eq x nil) t (cond (value_eq y nil) nil t) ≢ nil
    shown_true x y h = go (value_eq x nil) (value_eq y nil) refl
      where
        go : (a b : Bool) → value_eq y nil ≡ b → cond a t (cond b nil t) ≢ nil
        go true b q = t_isnt_nil
        go false true q = absurd (h (nil-eq y q))
        go false false q = t_isnt_nil

    parts : (h c : Term) → Goal c → known (function_of W) (Call implies_name (h ∷ c ∷ [])) ≡ true → AnyTrue A e (map negate (conjuncts h)) ⊎ AnyTrue A e (flat c) → val A (Call implies_name (h ∷ c ∷ [])) e ≢ nil
    parts h c gc k (inl p) = subst (λ v. v ≢ nil) (sym (implies_is W sound A ms h c e k)) (refuted_true (val A h e) (val A c e) (refuted (function_of W) A ms ground e h p))
    parts h c gc k (inr p) =
        let ks = each_true (known (function_of W)) (h ∷ c ∷ []) (known_args (function_of W) implies_name (h ∷ c ∷ []) k) in
        subst (λ v. v ≢ nil) (sym (implies_is W sound A ms h c e k)) (shown_true (val A h e) (val A c e) (gc ks.1.0 p))

    go : (x : Bool) (f : Symbol) (ts : List Term) → symbol_eq f implies_name ≡ x → Each Goal ts → known (function_of W) (Call f ts) ≡ true → AnyTrue A e (flat_at x ts (Call f ts)) → val A (Call f ts) e ≢ nil
    go true f (h ∷ c ∷ []) q es k any =
        subst (λ g. known (function_of W) (Call g (h ∷ c ∷ [])) ≡ true → val A (Call g (h ∷ c ∷ [])) e ≢ nil) (sym (symbol_eq-true f implies_name q))
        (λ k. parts h c es.1.0 k (any_either (λ u. val A u e ≢ nil) (map negate (conjuncts h)) (flat c) any)) k
    go x f ts q es k any = alone (Call f ts) any

    call : (f : Symbol) (ts : List Term) → Each Goal ts → Goal (Call f ts)
    call f ts es k = rw (flat_called f ts) (go (symbol_eq f implies_name) f ts refl es k)

pub clausifies : (u : Term) (c : Clause) → c.0 ≡ flat u → Clausifies u c
clausifies u c same = λ W sound ground k.
    let D = function_of W in
    let (A, ms) = models D sound.total in (
      subst (Each (λ w. known D w ≡ true)) (sym same) (flat_known D ground u k),
      λ valid. valid_of D A ms (u ∷ []) (true_each (known D) (u ∷ []) (k, tt))
          (λ e. inl (flat_true W sound ground A ms e u k (valid_is D A ms (flat u) (subst (Valid D) same valid) e))),
    )
