-- In a sound world some literal of a term's clause isn't nil where the term isn't: a valid term's clause is valid.
use Rattle.std.proofs.Common.{◌≡◌, ◌≢◌, Bool, true, false, cond, not, List, [], ◌∷◌, ◌++◌, map, ◌⊎◌, inl, inr, refl, ap, sym, ◌∙◌, subst}
use Rattle.ap_list.specs.Lists.{Each}
use Rattle.ap_value.specs.declared.symbol.Symbol.{Symbol}
use Rattle.ap_value.specs.declared.value.Value.{Value}
use Rattle.ap_value.specs.Values.{V, symbol_eq, value_eq}
use Rattle.ap_value.proofs.Equals.{symbol_eq-true, value_eq-same}
use Rattle.ap_term.specs.declared.term.Term.{Term, Var, Quote, Call}
use Rattle.ap_term.proofs.Induction.{term_ind}
use Rattle.ap_world.specs.declared.entry.Entry.{Entry}
use Rattle.ap_world.specs.Names.{if_name, implies_name}
use Rattle.ap_world.specs.Primitives.{nil, t}
use Rattle.ap_world.specs.Meaning.{Env, Defs, Valid}
use Rattle.ap_world.specs.Clauses.{negate, is_nil, conjuncts, flat}
use Rattle.ap_world.specs.World.{function_of}
use Rattle.ap_world.specs.Sound.{known, Sound}
use Rattle.ap_world.proofs.Knowing.{known_args, each_true, true_each}
use Rattle.ap_world.proofs.TotalMeaning.{Apply, Models, models, val, AnyTrue, valid_is, valid_of}
use Rattle.ap_world.proofs.Equations.{val_if, nil-eq, eq-not_nil}
use Rattle.ap_world.proofs.Written.{conjuncts_var, conjuncts_quote, flat_var, flat_quote}
use Rattle.ap_world.proofs.Given.{conjuncts_at, conjuncts_called, implies_is}
use Rattle.ap_kernel.specs.Standing.{DefinesNot}
use Rattle.ap_kernel.proofs.Splitting.{negate_turns}
use Rattle.ap_clausify.proofs.Flattened.{negations_append, flat_at, flat_called}
use Rattle.ap_clausify.proofs.Implied.{clausifies}

true_left : (A : Apply) (e : Env) (xs ys : List Term) → AnyTrue A e xs → AnyTrue A e (xs ++ ys)
true_left A e [] ys h = absurd h
true_left A e (x ∷ xs) ys (inl h) = inl h
true_left A e (x ∷ xs) ys (inr h) = inr (true_left A e xs ys h)

true_right : (A : Apply) (e : Env) (xs ys : List Term) → AnyTrue A e ys → AnyTrue A e (xs ++ ys)
true_right A e [] ys h = h
true_right A e (x ∷ xs) ys h = inr (true_right A e xs ys h)

true_either : (A : Apply) (e : Env) (xs ys : List Term) → AnyTrue A e xs ⊎ AnyTrue A e ys → AnyTrue A e (xs ++ ys)
true_either A e xs ys (inl h) = true_left A e xs ys h
true_either A e xs ys (inr h) = true_right A e xs ys h

-- a branch that is nil, whose other branch is
branch_nil : (x y z : V) → cond (value_eq x nil) z y ≡ nil → (x ≡ nil) ⊎ (y ≡ nil)
branch_nil x y z h = go (value_eq x nil) refl h
  where
    go : (b : Bool) → value_eq x nil ≡ b → cond b z y ≡ nil → (x ≡ nil) ⊎ (y ≡ nil)
    go true q k = inl (nil-eq x q)
    go false q k = inr k

module _ (D : Defs) (A : Apply) (ms : Models D A) (ground : DefinesNot D) (e : Env) where
  turned : (u : Term) → val A u e ≡ nil → val A (negate u) e ≢ nil
  turned u h = eq-not_nil (val A (negate u) e) (negate_turns D A ms ground e u ∙ ap (λ v. not (value_eq v nil)) h ∙ ap not (value_eq-same nil))

  -- where a term is nil the negation of one of its conjuncts isn't
  refutes : (u : Term) → val A u e ≡ nil → AnyTrue A e (map negate (conjuncts u))
  refutes = term_ind Goal variable quoted call
    where
      Goal : Term → Type 0
      Goal u = val A u e ≡ nil → AnyTrue A e (map negate (conjuncts u))

      alone : (u : Term) → val A u e ≡ nil → AnyTrue A e (map negate (u ∷ []))
      alone u h = inl (turned u h)

      variable : (x : Symbol) → Goal (Var x)
      variable x = rw (conjuncts_var x) (alone (Var x))

      quoted : (v : Value) → Goal (Quote v)
      quoted v = rw (conjuncts_quote v) (alone (Quote v))

      both : (a b : Term) → Goal a → Goal b → (val A a e ≡ nil) ⊎ (val A b e ≡ nil) → AnyTrue A e (map negate (conjuncts a)) ⊎ AnyTrue A e (map negate (conjuncts b))
      both a b ga gb (inl h) = inl (ga h)
      both a b ga gb (inr h) = inr (gb h)

      parts : (z : Bool) (a b c : Term) → Goal a → Goal b → val A (Call if_name (a ∷ b ∷ c ∷ [])) e ≡ nil → AnyTrue A e (map negate (cond z (conjuncts a ++ conjuncts b) (Call if_name (a ∷ b ∷ c ∷ []) ∷ [])))
      parts true a b c ga gb h =
          subst (AnyTrue A e) (sym (negations_append (conjuncts a) (conjuncts b)))
          (true_either A e (map negate (conjuncts a)) (map negate (conjuncts b)) (both a b ga gb (branch_nil (val A a e) (val A b e) (val A c e) (sym (val_if A a b c e) ∙ h))))
      parts false a b c ga gb h = alone (Call if_name (a ∷ b ∷ c ∷ [])) h

      go : (x : Bool) (f : Symbol) (ts : List Term) → symbol_eq f if_name ≡ x → Each Goal ts → val A (Call f ts) e ≡ nil → AnyTrue A e (map negate (conjuncts_at x ts (Call f ts)))
      go true f (a ∷ b ∷ c ∷ []) q es =
          subst (λ g. val A (Call g (a ∷ b ∷ c ∷ [])) e ≡ nil → AnyTrue A e (map negate (cond (is_nil c) (conjuncts a ++ conjuncts b) (Call g (a ∷ b ∷ c ∷ []) ∷ []))))
          (sym (symbol_eq-true f if_name q)) (parts (is_nil c) a b c es.0 es.1.0)
      go x f ts q es = alone (Call f ts)

      call : (f : Symbol) (ts : List Term) → Each Goal ts → Goal (Call f ts)
      call f ts es = rw (conjuncts_called f ts) (go (symbol_eq f if_name) f ts refl es)

-- where a term isn't nil a literal of its clause isn't
flat_holds : (W : List Entry) → Sound W → DefinesNot (function_of W) → (A : Apply) → Models (function_of W) A → (e : Env) (u : Term) → known (function_of W) u ≡ true → val A u e ≢ nil → AnyTrue A e (flat u)
flat_holds W sound ground A ms e = term_ind Goal variable quoted call
  where
    Goal : Term → Type 0
    Goal u = known (function_of W) u ≡ true → val A u e ≢ nil → AnyTrue A e (flat u)

    alone : (u : Term) → val A u e ≢ nil → AnyTrue A e (u ∷ [])
    alone u h = inl h

    variable : (x : Symbol) → Goal (Var x)
    variable x k = rw (flat_var x) (alone (Var x))

    quoted : (v : Value) → Goal (Quote v)
    quoted v k = rw (flat_quote v) (alone (Quote v))

    -- an implication with a hypothesis that isn't nil
    shown : (x y : V) → value_eq x nil ≡ false → cond (value_eq x nil) t (cond (value_eq y nil) nil t) ≢ nil → y ≢ nil
    shown x y q h same = h (ap (λ b. cond b t (cond (value_eq y nil) nil t)) q ∙ ap (λ v. cond (value_eq v nil) nil t) same ∙ ap (λ b. cond b nil t) (value_eq-same nil))

    parts : (h c : Term) → Goal c → known (function_of W) (Call implies_name (h ∷ c ∷ [])) ≡ true → val A (Call implies_name (h ∷ c ∷ [])) e ≢ nil → AnyTrue A e (map negate (conjuncts h)) ⊎ AnyTrue A e (flat c)
    parts h c gc k isnt = at (value_eq (val A h e) nil) refl
      where
        at : (b : Bool) → value_eq (val A h e) nil ≡ b → AnyTrue A e (map negate (conjuncts h)) ⊎ AnyTrue A e (flat c)
        at true q = inl (refutes (function_of W) A ms ground e h (nil-eq (val A h e) q))
        at false q =
            let ks = each_true (known (function_of W)) (h ∷ c ∷ []) (known_args (function_of W) implies_name (h ∷ c ∷ []) k) in
            inr (gc ks.1.0 (shown (val A h e) (val A c e) q (subst (λ v. v ≢ nil) (implies_is W sound A ms h c e k) isnt)))

    go : (x : Bool) (f : Symbol) (ts : List Term) → symbol_eq f implies_name ≡ x → Each Goal ts → known (function_of W) (Call f ts) ≡ true → val A (Call f ts) e ≢ nil → AnyTrue A e (flat_at x ts (Call f ts))
    go true f (h ∷ c ∷ []) q es k =
        subst (λ g. known (function_of W) (Call g (h ∷ c ∷ [])) ≡ true → val A (Call g (h ∷ c ∷ [])) e ≢ nil → AnyTrue A e (map negate (conjuncts h) ++ flat c)) (sym (symbol_eq-true f implies_name q))
        (λ k isnt. true_either A e (map negate (conjuncts h)) (flat c) (parts h c es.1.0 k isnt)) k
    go x f ts q es k = alone (Call f ts)

    call : (f : Symbol) (ts : List Term) → Each Goal ts → Goal (Call f ts)
    call f ts es k = rw (flat_called f ts) (go (symbol_eq f implies_name) f ts refl es k)

pub clause_valid : (W : List Entry) → Sound W → DefinesNot (function_of W) → (u : Term) → known (function_of W) u ≡ true → Valid (function_of W) (u ∷ []) → Valid (function_of W) (flat u)
clause_valid W sound ground u k valid =
    let D = function_of W in
    let (A, ms) = models D sound.total in
    valid_of D A ms (flat u) (true_each (known D) (flat u) (clausifies u (record { 0 = flat u }) refl W sound ground k).0)
    (λ e. flat_holds W sound ground A ms e u k (first A e (valid_is D A ms (u ∷ []) valid e)))
  where
    first : (A : Apply) (e : Env) → AnyTrue A e (u ∷ []) → val A u e ≢ nil
    first A e (inl h) = h
    first A e (inr h) = absurd h
