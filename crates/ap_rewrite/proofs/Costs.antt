-- What is done with answers by steps keeps that their cost doesn't depend on the steps that are left.
use Rattle.std.proofs.Common.{◌≡◌, ℕ, zero, suc, ◌+◌, ◌-◌, ◌<◌, ◌≤◌, Bool, true, false, cond, Option, None, Some, List, [], ◌∷◌, map, ◌⊎◌, inl, inr, refl, ap, ◌∙◌, arith}
use Rattle.ap_list.specs.Lists.{Each}
use Rattle.ap_term.specs.Metered.{Got, By, known, after, spend, mapped, or_else, first_that}
use Rattle.ap_rewrite.specs.Costs.{Costs, Metered}

pub metered_known : {A : Type 0} (a : A) → Metered (known a)
metered_known {A} a n b m e =
    let pair : ◌≡◌ {A = A × ℕ} (a, n) (b, m) = cc in
    let p : a ≡ b = ap (λ (x : A × ℕ). x.0) pair in
    let q : n ≡ m = ap (λ (x : A × ℕ). x.1) pair in
    record { cost = 0; spent = omega arith; more = λ j. let z : j + 0 ≡ j = omega arith in rw (z, p) refl; less = λ j h. absurd (omega arith) }

below : (j k : ℕ) → (j < k) ⊎ (k ≤ j)
below zero zero = inr (omega arith)
below zero (suc k) = inl (omega arith)
below (suc j) zero = inr (omega arith)
below (suc j) (suc k) = up (below j k)
  where
    up : (j < k) ⊎ (k ≤ j) → (suc j < suc k) ⊎ (suc k ≤ suc j)
    up (inl h) = inl (omega arith)
    up (inr h) = inr (omega arith)

pub metered_after : {A B : Type 0} (g : By A) (h : A → By B) → Metered g → ((a : A) → Metered (h a)) → Metered (λ n. after (g n) h)
metered_after {A} {B} g h mg mh n a m e = go (g n) refl e
  where
    go : (o : Got A) → g n ≡ o → after o h ≡ Some (a, m) → Costs (λ n. after (g n) h) n a m
    go None i k = cc
    go (Some p) i k =
        let x = mg n p.0 p.1 i in
        let y = mh p.0 p.1 a m k in
        let sx : n ≡ p.1 + x.cost = x.spent in
        let sy : p.1 ≡ m + y.cost = y.spent in
        record {
          cost = y.cost + x.cost;
          spent = omega arith;
          more = λ j. let z : j + (y.cost + x.cost) ≡ (j + y.cost) + x.cost = omega arith in rw (z, x.more (j + y.cost)) (y.more j);
          less = λ j l. split j l (below j x.cost);
        }
      where
        split : (j : ℕ) → j < (mh p.0 p.1 a m k).cost + (mg n p.0 p.1 i).cost → (j < (mg n p.0 p.1 i).cost) ⊎ ((mg n p.0 p.1 i).cost ≤ j) → after (g j) h ≡ None
        split j l (inl q) = rw ((mg n p.0 p.1 i).less j q) refl
        split j l (inr q) =
            let z : j ≡ (j - (mg n p.0 p.1 i).cost) + (mg n p.0 p.1 i).cost = omega arith in
            let u : j - (mg n p.0 p.1 i).cost < (mh p.0 p.1 a m k).cost = omega arith in
            ap (λ x. after (g x) h) z ∙ rw ((mg n p.0 p.1 i).more (j - (mg n p.0 p.1 i).cost)) ((mh p.0 p.1 a m k).less _ u)

pub metered_cond : {A : Type 0} (b : Bool) (g h : By A) → Metered g → Metered h → Metered (λ n. cond b (g n) (h n))
metered_cond true g h mg mh = mg
metered_cond false g h mg mh = mh

pub metered_spend : {A : Type 0} (k : By A) → Metered k → Metered (spend k)
metered_spend k mk zero a m e = cc
metered_spend {A} k mk (suc n) a m e =
    let x = mk n a m e in
    let s : n ≡ m + x.cost = x.spent in
    record {
      cost = suc x.cost;
      spent = omega arith;
      more = λ j. let z : j + suc x.cost ≡ suc (j + x.cost) = omega arith in rw z (x.more j);
      less = λ j l. low j l;
    }
  where
    low : (j : ℕ) → j < suc ((mk n a m e).cost) → spend k j ≡ None
    low zero l = refl
    low (suc j) l = (mk n a m e).less j (omega arith)

pub metered_mapped : {A B : Type 0} (f : A → B) (g : By A) → Metered g → Metered (λ n. mapped f (g n))
metered_mapped f g mg = metered_after g (λ a. known (f a)) mg (λ a. metered_known (f a))

-- all of a list are metered
metered_or : {A : Type 0} (o : Option A) (k : By (Option A)) → Metered k → Metered (or_else o k)
metered_or (Some a) k mk = metered_known (Some a)
metered_or None k mk = mk

pub metered_first : {A : Type 0} (ks : List (By (Option A))) → Each Metered ks → Metered (first_that ks)
metered_first [] ms = metered_known None
metered_first (k ∷ ks) ms = metered_after k (λ o. or_else o (first_that ks)) ms.0 (λ o. metered_or o (first_that ks) (metered_first ks ms.1))

pub each_metered : {A B : Type 0} (P : B → Type 0) (f : A → B) → ((a : A) → P (f a)) → (xs : List A) → Each P (map f xs)
each_metered P f h [] = tt
each_metered P f h (x ∷ xs) = (h x, each_metered P f h xs)
