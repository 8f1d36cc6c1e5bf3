-- The next one of a list, behind which each one has a property.
use Rattle.std.proofs.Common.{◌≡◌, ℕ, suc, ◌+◌, ◌<◌, List, ◌∷◌, length, drop, get_or, sym, ap, ◌∙◌, subst, add-one, drop-cons}
use Rattle.ap_list.specs.Lists.{Each}

pub each_next : {A : Type 0} (P : A → Type 0) (xs : List A) (i : ℕ) (x : A) → i < length xs → x ≡ get_or xs i x → P x → Each P (drop (i + 1) xs) → Each P (drop i xs)
each_next P xs i x within at this rest =
    let next : drop i xs ≡ x ∷ drop (i + 1) xs = drop-cons xs i x within ∙ ap (λ u. u ∷ drop (suc i) xs) (sym at) ∙ ap (λ k. x ∷ drop k xs) (sym (add-one i)) in
    subst (Each P) (sym next) (this, rest)
