-- Going through a list from its front.
use Rattle.std.proofs.Common.{◌≡◌, ℕ, zero, suc, ◌+◌, ◌≤◌, ◌<◌, List, [], ◌∷◌, Some, length, take, drop, get_or, refl, sym, subst, arith, inl, inr}
use Rattle.std.specs.List.{slice_get}
use Rattle.ap_list.specs.Lists.{AnyOf, Each}
use Rattle.ap_table.proofs.Keeping.{some_is}

module _ {A : Type 0} where
  pub get_there : (xs : List A) (i : ℕ) (d : A) → i < length xs → slice_get xs i ≡ Some (get_or xs i d)
  get_there [] i d h = absurd (omega arith)
  get_there (y ∷ ys) zero d h = refl
  get_there (y ∷ ys) (suc i) d h = get_there ys i d (omega arith)

  module _ (P : A → Type 0) where
    none_of : (j : ℕ) (ys : List A) → j ≡ 0 → AnyOf P (take j ys) → ⊥
    none_of zero ys e a = a
    none_of (suc j) ys e a = absurd (omega arith)

    pub none_next : (i j : ℕ) (xs : List A) (x : A) → j ≡ i + 1 → i < length xs → x ≡ get_or xs i x → (P x → ⊥) → (AnyOf P (take i xs) → ⊥) → AnyOf P (take j xs) → ⊥
    none_next i zero xs x is h e none before a = absurd (omega arith)
    none_next i (suc j) [] x is h e none before a = absurd (omega arith)
    none_next zero (suc j) (y ∷ ys) x is h e none before a = elim a [ inl b ↦ none (subst P (sym e) b) | inr b ↦ none_of j ys (omega arith) b ]
    none_next (suc i) (suc j) (y ∷ ys) x is h e none before a = elim a [ inl b ↦ before (inl b) | inr b ↦ none_next i j ys x (omega arith) (omega arith) e none (λ z. before (inr z)) b ]

    pub one_here : (i : ℕ) (xs : List A) (x : A) → i < length xs → x ≡ get_or xs i x → P x → AnyOf P xs
    one_here i [] x h e p = absurd (omega arith)
    one_here zero (y ∷ ys) x h e p = inl (subst P e p)
    one_here (suc i) (y ∷ ys) x h e p = inr (one_here i ys x (omega arith) e p)

    pub one_past : (i : ℕ) (xs : List A) (x : A) → i < length xs → x ≡ get_or xs i x → (P x → ⊥) → (AnyOf P (take i xs) → ⊥) → AnyOf P (take (i + 1) xs) → ⊥
    one_past i xs x h e none before = none_next i (i + 1) xs x refl h e none before

    pub none_all : (i : ℕ) (xs : List A) → length xs ≤ i → (AnyOf P (take i xs) → ⊥) → AnyOf P xs → ⊥
    none_all zero [] h none a = a
    none_all (suc i) [] h none a = a
    none_all zero (y ∷ ys) h none a = absurd (omega arith)
    none_all (suc i) (y ∷ ys) h none a = elim a [ inl b ↦ none (inl b) | inr b ↦ none_all i ys (omega arith) (λ z. none (inr z)) b ]

    each_none : (j : ℕ) (ys : List A) → j ≡ 0 → Each P (take j ys)
    each_none zero ys e = tt
    each_none (suc j) ys e = absurd (omega arith)

    each_next : (i j : ℕ) (xs : List A) (x : A) → j ≡ i + 1 → slice_get xs i ≡ Some x → P x → Each P (take i xs) → Each P (take j xs)
    each_next i zero xs x is e p before = absurd (omega arith)
    each_next i (suc j) [] x is e p before = absurd (cc)
    each_next zero (suc j) (y ∷ ys) x is e p before = (subst P (sym (some_is y x e)) p, each_none j ys (omega arith))
    each_next (suc i) (suc j) (y ∷ ys) x is e p before = (before.0, each_next i j ys x (omega arith) e p before.1)

    pub each_past : (i : ℕ) (xs : List A) (x : A) → slice_get xs i ≡ Some x → P x → Each P (take i xs) → Each P (take (i + 1) xs)
    each_past i xs x e p before = each_next i (i + 1) xs x refl e p before

    pub each_all : (i : ℕ) (xs : List A) → length xs ≤ i → Each P (take i xs) → Each P xs
    each_all zero [] h all = tt
    each_all (suc i) [] h all = tt
    each_all zero (y ∷ ys) h all = absurd (omega arith)
    each_all (suc i) (y ∷ ys) h all = (all.0, each_all i ys (omega arith) all.1)

    pub each_there : (i : ℕ) (xs : List A) (x : A) → slice_get xs i ≡ Some x → Each P xs → P x
    each_there i [] x e all = absurd (cc)
    each_there zero (y ∷ ys) x e all = subst P (some_is y x e) all.0
    each_there (suc i) (y ∷ ys) x e all = each_there i ys x e all.1

    pub each_beyond : (from i : ℕ) (xs : List A) (x : A) → from ≤ i → slice_get xs i ≡ Some x → Each P (drop from xs) → P x
    each_beyond zero i xs x h e all = each_there i xs x e all
    each_beyond (suc from) i [] x h e all = absurd (cc)
    each_beyond (suc from) zero (y ∷ ys) x h e all = absurd (omega arith)
    each_beyond (suc from) (suc i) (y ∷ ys) x h e all = each_beyond from i ys x (omega arith) e all
