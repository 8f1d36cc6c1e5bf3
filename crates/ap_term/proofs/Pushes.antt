-- The next one of a list that is made of another's, one after another.
use Rattle.std.proofs.Common.{◌≡◌, ℕ, suc, ◌+◌, ◌<◌, List, [], ◌∷◌, ◌++◌, map, length, drop, get_or, ap, sym, ◌∙◌, append_assoc, add-one, drop-cons}

pub mapped_more : {A B : Type 0} (g : A → B) (ts : List A) (i : ℕ) (t : A) (u : B) (out out' : List B) → i < length ts → t ≡ get_or ts i t → u ≡ g t → out' ≡ out ++ u ∷ []
    → out ++ map g (drop i ts) ≡ map g ts → out' ++ map g (drop (i + 1) ts) ≡ map g ts
mapped_more g ts i t u out out' within at made pushed so_far =
    let rest = drop (i + 1) ts in
    let next : drop i ts ≡ t ∷ rest = drop-cons ts i t within ∙ ap (λ x. x ∷ drop (suc i) ts) (sym at) ∙ ap (λ k. t ∷ drop k ts) (sym (add-one i)) in
    ap (λ o. o ++ map g rest) pushed ∙ append_assoc out (u ∷ []) (map g rest) ∙ ap (λ y. out ++ y ∷ map g rest) made ∙ ap (λ us. out ++ map g us) (sym next) ∙ so_far
