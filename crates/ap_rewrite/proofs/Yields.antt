-- What holds of every answer: each word on steps hands it on.
use Rattle.std.proofs.Common.{◌≡◌, ℕ, zero, suc, Bool, true, false, cond, Option, None, Some, List, [], ◌∷◌, map, refl, ap, subst}
use Rattle.ap_list.specs.Lists.{Each}
use Rattle.ap_term.specs.Metered.{Got, By, known, after, spend, mapped, or_else, first_that}

abbrev pub Yields : {A : Type 0} → (A → Type 0) → By A → Type 0
Yields {A} P g = (n : ℕ) (a : A) (m : ℕ) → g n ≡ Some (a, m) → P a

-- it holds of an answer that is there
abbrev pub When : {A : Type 0} → (A → Type 0) → Option A → Type 0
When P None = Unit {0}
When P (Some a) = P a

pub yields_known : {A : Type 0} (P : A → Type 0) (a : A) → P a → Yields P (known a)
yields_known {A} P a p n b m e =
    let pair : ◌≡◌ {A = A × ℕ} (a, n) (b, m) = cc in
    let same : a ≡ b = ap (λ (x : A × ℕ). x.0) pair in
    subst P same p

pub yields_after : {A B : Type 0} (P : A → Type 0) (Q : B → Type 0) (g : By A) (h : A → By B) → Yields P g → ((a : A) → P a → Yields Q (h a)) → Yields Q (λ n. after (g n) h)
yields_after {A} {B} P Q g h pg qh n b m e = go (g n) refl e
  where
    go : (o : Got A) → g n ≡ o → after o h ≡ Some (b, m) → Q b
    go None i k = cc
    go (Some p) i k = qh p.0 (pg n p.0 p.1 i) p.1 b m k

pub yields_cond : {A : Type 0} (P : A → Type 0) (b : Bool) (g h : By A) → (b ≡ true → Yields P g) → (b ≡ false → Yields P h) → Yields P (λ n. cond b (g n) (h n))
yields_cond P true g h pg ph = pg refl
yields_cond P false g h pg ph = ph refl

pub yields_spend : {A : Type 0} (P : A → Type 0) (k : By A) → Yields P k → Yields P (spend k)
yields_spend P k pk zero a m e = cc
yields_spend P k pk (suc n) a m e = pk n a m e

pub yields_mapped : {A B : Type 0} (P : A → Type 0) (Q : B → Type 0) (f : A → B) (g : By A) → ((a : A) → P a → Q (f a)) → Yields P g → Yields Q (λ n. mapped f (g n))
yields_mapped P Q f g h pg = yields_after P Q g (λ a. known (f a)) pg (λ a p. yields_known Q (f a) (h a p))

yields_or : {A : Type 0} (P : A → Type 0) (o : Option A) (k : By (Option A)) → When P o → Yields (When P) k → Yields (When P) (or_else o k)
yields_or P (Some a) k p pk = yields_known (When P) (Some a) p
yields_or P None k p pk = pk

-- the first that applies, where it holds of what each of them answers
pub yields_first : {A : Type 0} (P : A → Type 0) (ks : List (By (Option A))) → Each (Yields (When P)) ks → Yields (When P) (first_that ks)
yields_first P [] ps = yields_known (When P) None tt
yields_first P (k ∷ ks) ps = yields_after (When P) (When P) k (λ o. or_else o (first_that ks)) ps.0 (λ o p. yields_or P o (first_that ks) p (yields_first P ks ps.1))

pub each_mapped : {A B : Type 0} (H : A → Type 0) (P : B → Type 0) (f : A → B) → ((a : A) → H a → P (f a)) → (xs : List A) → Each H xs → Each P (map f xs)
each_mapped H P f h [] hs = tt
each_mapped H P f h (x ∷ xs) hs = (h x hs.0, each_mapped H P f h xs hs.1)

pub yields_same : {A : Type 0} (P Q : A → Type 0) (g : By A) → ((a : A) → P a → Q a) → Yields P g → Yields Q g
yields_same P Q g h pg n a m e = h a (pg n a m e)
