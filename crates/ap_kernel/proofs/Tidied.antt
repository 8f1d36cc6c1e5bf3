-- The plain form of a clause holds where the clause does.
use Rattle.std.proofs.Common.{◌≡◌, ◌≢◌, Bool, true, false, true≢false, cond, not, ◌||◌, List, [], ◌∷◌, ◌++◌, map, ◌⊎◌, inl, inr, refl, ap, sym, ◌∙◌, subst}
use Rattle.ap_list.specs.Lists.{Each, is_among}
use Rattle.ap_value.specs.Values.{val_of, value_eq}
use Rattle.ap_value.proofs.Equals.{value_eq-same}
use Rattle.ap_term.specs.declared.term.Term.{Term}
use Rattle.ap_term.specs.declared.term.Clause.{Clause}
use Rattle.ap_term.specs.Equal.{term_eq}
use Rattle.ap_term.proofs.Equals.{term_eq-true}
use Rattle.ap_world.specs.Primitives.{nil}
use Rattle.ap_world.specs.Meaning.{Env, Defs, Total}
use Rattle.ap_world.specs.Sound.{known}
use Rattle.ap_world.specs.Shapes.{Shape, constant, negation, shape_of, is_constant}
use Rattle.ap_world.proofs.Knowing.{known_quote, true_each}
use Rattle.ap_world.proofs.TotalMeaning.{Apply, Models, models, val, val_quote, AnyTrue, valid_is, valid_of}
use Rattle.ap_world.proofs.Equations.{nil-eq, eq-not_nil}
use Rattle.ap_world.proofs.Starting.{val_not}
use Rattle.ap_world.proofs.Shaped.{Says, shape_says}
use Rattle.ap_world.proofs.Assumed.{constant_signed}
use Rattle.ap_kernel.specs.Standing.{DefinesNot}
use Rattle.ap_kernel.specs.Equations.{truth_constant}
use Rattle.ap_kernel.specs.Choices.{bare}
use Rattle.ap_kernel.specs.Reductions.{KnownClause, Follows}
use Rattle.ap_kernel.specs.Tidying.{negated_bare, plain, kept, tidied, is_opposed, decides, any_decides, holds_by_itself, tidy_made}
use Rattle.ap_kernel.proofs.EquationsStand.{val_truth_constant}
use Rattle.ap_kernel.proofs.ChoicesStand.{bare_known, turned_by, bare_turns, not_nil, known_not}

-- either test
either : (a b : Bool) → (a || b) ≡ true → (a ≡ true) ⊎ (b ≡ true)
either true b h = inl refl
either false b h = inr h

-- the plain form of a literal is known
known_plain : (D : Defs) → DefinesNot D → (u : Term) → known D u ≡ true → known D (plain u) ≡ true
known_plain D ground u k = go (bare u).1 (shape_of (bare u).0)
  where
    truth_known : (b : Bool) → known D (truth_constant b) ≡ true
    truth_known true = known_quote D _
    truth_known false = known_quote D _

    negated : (y : Shape Term) → known D (negated_bare y (bare u).0) ≡ true
    negated (constant v) = truth_known (value_eq (val_of v) nil)
    negated y = known_not D ground (bare u).0 (bare_known D u k)

    go : (b : Bool) (y : Shape Term) → known D (cond b (negated_bare y (bare u).0) (bare u).0) ≡ true
    go true y = negated y
    go false y = bare_known D u k

known_kept : (D : Defs) (before us : List Term) → Each (λ u. known D u ≡ true) us → Each (λ u. known D u ≡ true) (kept before us)
known_kept D before [] ks = tt
known_kept D before (u ∷ us) ks = go (is_constant false u || is_among term_eq u before) (known_kept D before us ks.1) (known_kept D (before ++ u ∷ []) us ks.1)
  where
    go : (b : Bool) → Each (λ u. known D u ≡ true) (kept before us) → Each (λ u. known D u ≡ true) (kept (before ++ u ∷ []) us)
        → Each (λ u. known D u ≡ true) (cond b (kept before us) (u ∷ kept (before ++ u ∷ []) us))
    go true p q = p
    go false p q = (ks.0, q)

known_tidied : (D : Defs) → DefinesNot D → (ts : List Term) → Each (λ u. known D u ≡ true) ts → Each (λ u. known D u ≡ true) (tidied ts)
known_tidied D ground ts ks = known_kept D [] (map plain ts) (each_plain ts ks)
  where
    each_plain : (ts : List Term) → Each (λ u. known D u ≡ true) ts → Each (λ u. known D u ≡ true) (map plain ts)
    each_plain [] ks = tt
    each_plain (t ∷ ts) ks = (known_plain D ground t ks.0, each_plain ts ks.1)

module _ (D : Defs) (A : Apply) (ms : Models D A) (ground : DefinesNot D) (e : Env) where
  -- a literal and its plain form are both nil or both not
  plain_nil : (u : Term) → value_eq (val A (plain u) e) nil ≡ value_eq (val A u e) nil
  plain_nil u = go (bare u).1 refl (shape_of (bare u).0) (shape_says (bare u).0) ∙ sym (bare_turns D A ms ground e u)
    where
      negated : (y : Shape Term) → Says (bare u).0 y → value_eq (val A (negated_bare y (bare u).0) e) nil ≡ not (value_eq (val A (bare u).0 e) nil)
      negated (constant v) h =
          ap (λ x. value_eq x nil) (val_truth_constant A (value_eq (val_of v) nil) e) ∙ not_nil (value_eq (val_of v) nil)
          ∙ ap (λ x. not (value_eq x nil)) (sym (ap (λ w. val A w e) h ∙ val_quote A v e))
      negated y h = ap (λ x. value_eq x nil) (val_not D A ms ground (bare u).0 e) ∙ not_nil (value_eq (val A (bare u).0 e) nil)

      go : (b : Bool) → (bare u).1 ≡ b → (y : Shape Term) → Says (bare u).0 y
          → value_eq (val A (cond b (negated_bare y (bare u).0) (bare u).0) e) nil ≡ turned_by b (value_eq (val A (bare u).0 e) nil)
      go true q y h = negated y h
      go false q y h = refl

  true_plain : (u : Term) → val A (plain u) e ≢ nil → val A u e ≢ nil
  true_plain u h isnil = h (nil-eq (val A (plain u) e) (plain_nil u ∙ ap (λ v. value_eq v nil) isnil ∙ nil_same))
    where
      nil_same : value_eq nil nil ≡ true
      nil_same = value_eq-same nil

  any_plain : (ts : List Term) → AnyTrue A e (map plain ts) → AnyTrue A e ts
  any_plain [] h = h
  any_plain (t ∷ ts) (inl h) = inl (true_plain t h)
  any_plain (t ∷ ts) (inr h) = inr (any_plain ts h)

  any_kept : (before us : List Term) → AnyTrue A e (kept before us) → AnyTrue A e us
  any_kept before [] h = h
  any_kept before (u ∷ us) h = go (is_constant false u || is_among term_eq u before) (any_kept before us) (any_kept (before ++ u ∷ []) us) h
    where
      go : (b : Bool) → (AnyTrue A e (kept before us) → AnyTrue A e us) → (AnyTrue A e (kept (before ++ u ∷ []) us) → AnyTrue A e us)
          → AnyTrue A e (cond b (kept before us) (u ∷ kept (before ++ u ∷ []) us)) → AnyTrue A e (u ∷ us)
      go true p q h = inr (p h)
      go false p q (inl h) = inl h
      go false p q (inr h) = inr (q h)

  any_tidied : (ts : List Term) → AnyTrue A e (tidied ts) → AnyTrue A e ts
  any_tidied ts h = any_plain ts (any_kept [] (map plain ts) h)

  -- a literal that is among them is held where it is other than nil
  among_true : (a : Term) (ts : List Term) → is_among term_eq a ts ≡ true → val A a e ≢ nil → AnyTrue A e ts
  among_true a [] h k = absurd (true≢false (sym h))
  among_true a (t ∷ ts) h k = go (either (term_eq a t) (is_among term_eq a ts) h) (λ l. among_true a ts l k)
    where
      go : (term_eq a t ≡ true) ⊎ (is_among term_eq a ts ≡ true) → (is_among term_eq a ts ≡ true → AnyTrue A e ts) → AnyTrue A e (t ∷ ts)
      go (inl p) later = inl (subst (λ w. val A w e ≢ nil) (term_eq-true a t p) k)
      go (inr p) later = inr (later p)

  -- a literal that decides is held, or one of the clause is
  decided : (ts : List Term) (u : Term) → decides ts u ≡ true → (val A u e ≢ nil) ⊎ AnyTrue A e ts
  decided ts u h = go (either (is_constant true u) (is_opposed ts (shape_of u)) h)
    where
      opposed : (y : Shape Term) → Says u y → is_opposed ts y ≡ true → (val A u e ≢ nil) ⊎ AnyTrue A e ts
      opposed (negation a) s l = test (value_eq (val A a e) nil) refl
        where
          test : (b : Bool) → value_eq (val A a e) nil ≡ b → (val A u e ≢ nil) ⊎ AnyTrue A e ts
          test false q = inr (among_true a ts l (eq-not_nil (val A a e) q))
          test true q = inl (eq-not_nil (val A u e)
              (ap (λ w. value_eq (val A w e) nil) s ∙ ap (λ v. value_eq v nil) (val_not D A ms ground a e) ∙ not_nil (value_eq (val A a e) nil) ∙ ap not q))
      opposed y s l = cc

      go : (is_constant true u ≡ true) ⊎ (is_opposed ts (shape_of u) ≡ true) → (val A u e ≢ nil) ⊎ AnyTrue A e ts
      go (inl p) = inl (constant_signed D A ms ground e true u p)
      go (inr p) = opposed (shape_of u) (shape_says u) p

  any_decided : (ts us : List Term) → any_decides ts us ≡ true → AnyTrue A e us ⊎ AnyTrue A e ts
  any_decided ts [] h = absurd (true≢false (sym h))
  any_decided ts (u ∷ us) h = go (either (decides ts u) (any_decides ts us) h) (any_decided ts us)
    where
      first : (val A u e ≢ nil) ⊎ AnyTrue A e ts → AnyTrue A e (u ∷ us) ⊎ AnyTrue A e ts
      first (inl k) = inl (inl k)
      first (inr k) = inr k

      rest : AnyTrue A e us ⊎ AnyTrue A e ts → AnyTrue A e (u ∷ us) ⊎ AnyTrue A e ts
      rest (inl k) = inl (inr k)
      rest (inr k) = inr k

      go : (decides ts u ≡ true) ⊎ (any_decides ts us ≡ true) → (any_decides ts us ≡ true → AnyTrue A e us ⊎ AnyTrue A e ts) → AnyTrue A e (u ∷ us) ⊎ AnyTrue A e ts
      go (inl p) later = first (decided ts u p)
      go (inr p) later = rest (later p)

  holds_true : (ts : List Term) → holds_by_itself ts ≡ true → AnyTrue A e ts
  holds_true ts h = go (any_decided ts ts h)
    where
      go : AnyTrue A e ts ⊎ AnyTrue A e ts → AnyTrue A e ts
      go (inl k) = k
      go (inr k) = k

pub tidy_reduces : (D : Defs) → Total D → DefinesNot D → (c : Clause) → KnownClause D c → Follows D (tidy_made c)
tidy_reduces D total ground c k = go (holds_by_itself (tidied c.0)) refl
  where
    go : (b : Bool) → holds_by_itself (tidied c.0) ≡ b → Follows D (record { from = c; to = cond b [] (record { 0 = tidied c.0 } ∷ []) })
    go true q =
        let (A, ms) = models D total in
        record { start = k; goals = tt; valid = λ h. valid_of D A ms c.0 (true_each (known D) c.0 k) (λ e. any_tidied D A ms ground e c.0 (holds_true D A ms ground e (tidied c.0) q)) }
    go false q =
        let (A, ms) = models D total in
        record {
          start = k;
          goals = (known_tidied D ground c.0 k, tt);
          valid = λ h. valid_of D A ms c.0 (true_each (known D) c.0 k) (λ e. any_tidied D A ms ground e c.0 (valid_is D A ms (tidied c.0) h.0 e));
        }
