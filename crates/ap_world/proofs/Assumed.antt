-- What is assumed holds where the term has the sign, and is known.
use Rattle.std.proofs.Common.{◌≡◌, ◌≢◌, Bool, true, false, cond, not, IsTrue, List, [], ◌∷◌, ◌++◌, Some, refl, ap, sym, ◌∙◌, subst}
use Rattle.ap_list.specs.Lists.{Each}
use Rattle.ap_value.specs.declared.value.Value.{Value}
use Rattle.ap_value.specs.Values.{V, val_of, value_eq}
use Rattle.ap_term.specs.declared.term.Term.{Term}
use Rattle.ap_world.specs.Names.{if_name, not_name}
use Rattle.ap_world.specs.Primitives.{nil, truth}
use Rattle.ap_world.specs.Meaning.{Env, Defs, HasValue, FactHolds}
use Rattle.ap_world.specs.Sound.{known, not_function}
use Rattle.ap_world.specs.Facts.{Facts, KnownFacts, FactsHold}
use Rattle.ap_world.specs.Shapes.{Shape, constant, choice, negation, constant_says, shape_of, is_constant}
use Rattle.ap_world.specs.Assume.{parts, assumed, assume}
use Rattle.ap_world.proofs.Knowing.{known_args, each_true, each_same}
use Rattle.ap_world.proofs.TotalMeaning.{Apply, Models, val, val_is, value_is, val_quote}
use Rattle.ap_world.proofs.Equations.{val_if, nil-eq, eq-not_nil, t_isnt_nil}
use Rattle.ap_world.proofs.Starting.{val_not}
use Rattle.ap_world.proofs.Shaped.{Says, shape_says}
use Rattle.ap_world.proofs.Parts.{parts_each, assumed_each}

-- a value other than nil, or nil
abbrev pub Signed : Bool → V → Type 0
Signed true v = v ≢ nil
Signed false v = v ≡ nil

pub clash : {P : Type 0} (s : Bool) (v : V) → Signed s v → Signed (not s) v → P
clash true v h k = absurd (h k)
clash false v h k = absurd (k h)

pub not_signed : (s : Bool) (x : V) → Signed s (truth (value_eq x nil)) → Signed (not s) x
not_signed s x h = go s (value_eq x nil) refl h
  where
    go : (s b : Bool) → value_eq x nil ≡ b → Signed s (truth b) → Signed (not s) x
    go true true q h = nil-eq x q
    go true false q h = absurd (h refl)
    go false true q h = absurd (t_isnt_nil h)
    go false false q h = eq-not_nil x q

-- where the value of an `if` has a sign that one branch hasn't, the other branch is chosen and has it
pub chosen_yes : (x y z : V) (s : Bool) → Signed s (cond (value_eq x nil) z y) → Signed (not s) z → (x ≢ nil) × Signed s y
chosen_yes x y z s h k = go (value_eq x nil) refl h
  where
    go : (b : Bool) → value_eq x nil ≡ b → Signed s (cond b z y) → (x ≢ nil) × Signed s y
    go true q h = clash s z h k
    go false q h = (eq-not_nil x q, h)

pub chosen_no : (x y z : V) (s : Bool) → Signed s (cond (value_eq x nil) z y) → Signed (not s) y → (x ≡ nil) × Signed s z
chosen_no x y z s h k = go (value_eq x nil) refl h
  where
    go : (b : Bool) → value_eq x nil ≡ b → Signed s (cond b z y) → (x ≡ nil) × Signed s z
    go true q h = (nil-eq x q, h)
    go false q h = clash s y h k

-- the parts of an `if` and of a `not` that is known are known
pub parts_known : (D : Defs) (u : Term) (y : Shape Term) → Says u y → (s : Bool) → known D u ≡ true → Each (λ (p : Term × Bool). known D p.0 ≡ true) (parts (λ u. u) y s)
parts_known D u (choice a b c) e s k =
    let ks = each_true (known D) (a ∷ b ∷ c ∷ []) (known_args D if_name (a ∷ b ∷ c ∷ []) (subst (λ u. known D u ≡ true) e k)) in
    parts_each (λ (p : Term × Bool). known D p.0 ≡ true) a b c s (λ r. ks.0) ks.1.0 ks.1.1.0
parts_known D u (negation a) e s k =
    each_true_one (each_true (known D) (a ∷ []) (known_args D not_name (a ∷ []) (subst (λ u. known D u ≡ true) e k)))
  where
    each_true_one : Each (λ x. known D x ≡ true) (a ∷ []) → Each (λ (p : Term × Bool). known D p.0 ≡ true) ((a, not s) ∷ [])
    each_true_one ks = (ks.0, tt)
parts_known D u y e s k = tt

pub assumed_known : (D : Defs) (u : Term) (s : Bool) → known D u ≡ true → KnownFacts D (assumed u s)
assumed_known D u s k = assumed_each (λ (p : Term × Bool). known D p.0 ≡ true) (λ u s k. parts_known D u (shape_of u) (shape_says u) s k) u s k

pub both_each : {A : Type 0} (P : A → Type 0) (xs ys : List A) → Each P xs → Each P ys → Each P (xs ++ ys)
both_each P [] ys ps qs = qs
both_each P (x ∷ xs) ys ps qs = (ps.0, both_each P xs ys ps.1 qs)

pub assume_known : (D : Defs) (fs : Facts) (u : Term) (s : Bool) → KnownFacts D fs → known D u ≡ true → KnownFacts D (assume fs u s)
assume_known D fs u s ks k = both_each (λ f. IsTrue (known D f.0)) fs (assumed u s) ks (assumed_known D u s k)

-- a known term that has the sign is a fact that holds, and the other way round
pub fact_of : (D : Defs) (A : Apply) → Models D A → (e : Env) (u : Term) (s : Bool) → known D u ≡ true → Signed s (val A u e) → FactHolds D e (u, s)
fact_of D A m e u true k h = (val A u e, val_is D A m u k e, h)
fact_of D A m e u false k h = subst (HasValue D u e) h (val_is D A m u k e)

pub fact_says : (D : Defs) (A : Apply) → Models D A → (e : Env) (u : Term) (s : Bool) → FactHolds D e (u, s) → Signed s (val A u e)
fact_says D A m e u true h = λ isnil. h.2 (value_is D A m u e h.0 h.1 ∙ isnil)
fact_says D A m e u false h = sym (value_is D A m u e nil h)

module _ (D : Defs) (A : Apply) (m : Models D A) (ground : D not_name ≡ Some not_function) (e : Env) where
  -- a constant that says so has the sign
  pub constant_signed : (s : Bool) (u : Term) → is_constant s u ≡ true → Signed s (val A u e)
  constant_signed s u h = go s (shape_of u) (shape_says u) h
    where
      says_true : (v : Value) (b : Bool) → value_eq (val_of v) nil ≡ b → not b ≡ true → val_of v ≢ nil
      says_true v true q l = absurd (no l)
        where
          no : false ≡ true → ⊥
          no k = cc
      says_true v false q l = eq-not_nil (val_of v) q

      go : (s : Bool) (y : Shape Term) → Says u y → constant_says s y ≡ true → Signed s (val A u e)
      go true (constant v) k l = subst (λ x. x ≢ nil) (sym (ap (λ u. val A u e) k ∙ val_quote A v e)) (says_true v (value_eq (val_of v) nil) refl l)
      go false (constant v) k l = ap (λ u. val A u e) k ∙ val_quote A v e ∙ nil-eq (val_of v) l
      go s y k l = cc

  parts_signed : (u : Term) (y : Shape Term) → Says u y → (s : Bool) → Signed s (val A u e) → Each (λ (p : Term × Bool). Signed p.1 (val A p.0 e)) (parts (λ u. u) y s)
  parts_signed u (negation a) k s h =
      (not_signed s (val A a e) (subst (Signed s) (ap (λ u. val A u e) k ∙ val_not D A m ground a e) h), tt)
  parts_signed u (choice a b c) k s h = go (is_constant (not s) c) refl (is_constant (not s) b) refl
    where
      h2 : Signed s (cond (value_eq (val A a e) nil) (val A c e) (val A b e))
      h2 = subst (Signed s) (ap (λ u. val A u e) k ∙ val_if A a b c e) h

      go : (x : Bool) → is_constant (not s) c ≡ x → (y : Bool) → is_constant (not s) b ≡ y
          → Each (λ (p : Term × Bool). Signed p.1 (val A p.0 e)) (cond x ((a, true) ∷ (b, s) ∷ []) (cond y ((a, false) ∷ (c, s) ∷ []) []))
      go true p y q = let r = chosen_yes (val A a e) (val A b e) (val A c e) s h2 (constant_signed (not s) c p) in (r.0, (r.1, tt))
      go false p true q = let r = chosen_no (val A a e) (val A b e) (val A c e) s h2 (constant_signed (not s) b q) in (r.0, (r.1, tt))
      go false p false q = tt
  parts_signed u y k s h = tt

  -- the facts that a known term and its sign stand for hold
  pub assumed_holds : (u : Term) (s : Bool) → known D u ≡ true → Signed s (val A u e) → FactsHold D e (assumed u s)
  assumed_holds u s k h =
      each_same (assumed u s) (λ p q. fact_of D A m e p.0 p.1 q.0 q.1)
      (assumed_each (λ (p : Term × Bool). (known D p.0 ≡ true) × Signed p.1 (val A p.0 e)) down u s (k, h))
    where
      pairs : (ps : List (Term × Bool)) → Each (λ (p : Term × Bool). known D p.0 ≡ true) ps → Each (λ (p : Term × Bool). Signed p.1 (val A p.0 e)) ps → Each (λ (p : Term × Bool). (known D p.0 ≡ true) × Signed p.1 (val A p.0 e)) ps
      pairs [] ks hs = tt
      pairs (p ∷ ps) ks hs = ((ks.0, hs.0), pairs ps ks.1 hs.1)

      down : (u : Term) (s : Bool) → (known D u ≡ true) × Signed s (val A u e) → Each (λ (p : Term × Bool). (known D p.0 ≡ true) × Signed p.1 (val A p.0 e)) (parts (λ u. u) (shape_of u) s)
      down u s q = pairs (parts (λ u. u) (shape_of u) s) (parts_known D u (shape_of u) (shape_says u) s q.0) (parts_signed u (shape_of u) (shape_says u) s q.1)

  pub assume_holds : (fs : Facts) (u : Term) (s : Bool) → known D u ≡ true → FactsHold D e fs → Signed s (val A u e) → FactsHold D e (assume fs u s)
  assume_holds fs u s k hs h = both_each (FactHolds D e) fs (assumed u s) hs (assumed_holds u s k h)
