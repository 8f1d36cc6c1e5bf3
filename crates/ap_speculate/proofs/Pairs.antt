-- Two lists of which the first elements were changed, one after another.
use Rattle.std.proofs.Common.{◌≡◌, ℕ, zero, suc, ◌+◌, ◌<◌, ◌≤◌, List, [], ◌∷◌, length, get_or, set, refl, sym, subst, arith, inl, inr, add-one}
use Rattle.ap_list.specs.Lists.{AnyOf}
use Rattle.ap_speculate.specs.Jobs.{Both}

module _ {A : Type 0} where
  -- the first i of one list became those of the other, by R, and the others are the same
  abbrev pub Upto : (A → A → Type 0) → ℕ → List A → List A → Type 0
  Upto R zero xs ys = xs ≡ ys
  Upto R (suc i) [] [] = Unit {0}
  Upto R (suc i) [] (y ∷ ys) = ⊥
  Upto R (suc i) (x ∷ xs) [] = ⊥
  Upto R (suc i) (x ∷ xs) (y ∷ ys) = R x y × Upto R i xs ys

  pub both_same : (R : A → A → Type 0) → ((x : A) → R x x) → (xs : List A) → Both R xs xs
  both_same R same [] = tt
  both_same R same (x ∷ xs) = (same x, both_same R same xs)

  pub both_long : (R : A → A → Type 0) (xs ys : List A) → Both R xs ys → length xs ≡ length ys
  both_long R [] [] b = refl
  both_long R [] (y ∷ ys) b = absurd b
  both_long R (x ∷ xs) [] b = absurd b
  both_long R (x ∷ xs) (y ∷ ys) b = let l = both_long R xs ys b.1 in omega arith

  -- all were changed
  pub upto_all : (R : A → A → Type 0) (i : ℕ) (xs ys : List A) → length ys ≤ i → Upto R i xs ys → Both R xs ys
  upto_all R zero xs [] long is = subst (λ l. Both R l []) (sym is) tt
  upto_all R zero xs (y ∷ ys) long is = absurd (omega arith)
  upto_all R (suc i) [] [] long is = tt
  upto_all R (suc i) [] (y ∷ ys) long is = absurd is
  upto_all R (suc i) (x ∷ xs) [] long is = absurd is
  upto_all R (suc i) (x ∷ xs) (y ∷ ys) long is = (is.0, upto_all R i xs ys (omega arith) is.1)

  pub both_as : (R S : A → A → Type 0) → ((x y : A) → R x y → S x y) → (xs ys : List A) → Both R xs ys → Both S xs ys
  both_as R S weak [] [] b = tt
  both_as R S weak [] (y ∷ ys) b = absurd b
  both_as R S weak (x ∷ xs) [] b = absurd b
  both_as R S weak (x ∷ xs) (y ∷ ys) b = (weak x y b.0, both_as R S weak xs ys b.1)

  -- one more was changed
  upto_suc : (R : A → A → Type 0) (i : ℕ) (xs ys : List A) (d v : A) → Upto R i xs ys → i < length ys → R (get_or ys i d) v → Upto R (suc i) xs (set ys i v)
  upto_suc R i xs [] d v is below r = absurd (omega arith)
  upto_suc R zero xs (y ∷ ys) d v is below r = subst (λ l. Upto R 1 l (v ∷ ys)) (sym is) (r, refl)
  upto_suc R (suc i) [] (y ∷ ys) d v is below r = absurd is
  upto_suc R (suc i) (x ∷ xs) (y ∷ ys) d v is below r = (is.0, upto_suc R i xs ys d v is.1 (omega arith) r)

  pub upto_next : (R : A → A → Type 0) (i : ℕ) (xs ys : List A) (d v : A) → Upto R i xs ys → i < length ys → R (get_or ys i d) v → Upto R (i + 1) xs (set ys i v)
  upto_next R i xs ys d v is below r = rw add-one (upto_suc R i xs ys d v is below r)

  -- the last change is by a weaker relation, which holds of what stays too
  pub upto_last : (R S : A → A → Type 0) → ((x y : A) → R x y → S x y) → ((x : A) → S x x) → (i : ℕ) (xs ys : List A) (d v : A) → Upto R i xs ys → i < length ys → S (get_or ys i d) v → Both S xs (set ys i v)
  upto_last R S weak same i xs [] d v is below s = absurd (omega arith)
  upto_last R S weak same zero xs (y ∷ ys) d v is below s = subst (λ l. Both S l (v ∷ ys)) (sym is) (s, both_same S same ys)
  upto_last R S weak same (suc i) [] (y ∷ ys) d v is below s = absurd is
  upto_last R S weak same (suc i) (x ∷ xs) (y ∷ ys) d v is below s = (weak x y is.0, upto_last R S weak same i xs ys d v is.1 (omega arith) s)

  pub any_of_set : (P : A → Type 0) (i : ℕ) (ys : List A) (v : A) → i < length ys → P v → AnyOf P (set ys i v)
  any_of_set P i [] v below p = absurd (omega arith)
  any_of_set P zero (y ∷ ys) v below p = inl p
  any_of_set P (suc i) (y ∷ ys) v below p = inr (any_of_set P i ys v (omega arith) p)
