-- Formals beside their arguments, one place after another.
use Rattle.std.proofs.Common.{◌≡◌, ℕ, zero, suc, ◌+◌, ◌-◌, ◌<◌, ◌≤◌, min, false, cond, List, [], ◌∷◌, length, drop, take, zip, get_or, Some, refl, ap, sym, ◌∙◌, arith}
use Rattle.std.proofs.Math.Seq.{drop-cons}
use Rattle.ap_list.specs.Lists.{lookup_by}
use Rattle.ap_value.specs.declared.symbol.Symbol.{Symbol}
use Rattle.ap_value.specs.declared.value.Value.{Value}
use Rattle.ap_value.specs.Values.{symbol_eq}

-- a list from a place on begins with the item there
pub from_item : {A : Type 0} (xs : List A) (i : ℕ) (x : A) → i < length xs → x ≡ get_or xs i x → drop i xs ≡ x ∷ drop (i + 1) xs
from_item xs i x h e =
    let more : suc i ≡ i + 1 = omega arith in
    drop-cons xs i x h ∙ (λ k. sym e k ∷ drop (more k) xs)

take_all : {A : Type 0} (xs : List A) → take (length xs) xs ≡ xs
take_all [] = refl
take_all (x ∷ xs) = ap (λ ys. x ∷ ys) (take_all xs)

-- a list that isn't empty is its first item and the others
pub first_and_rest : {A : Type 0} (xs : List A) (x : A) → 0 < length xs → x ≡ get_or xs 0 x → xs ≡ x ∷ take (length xs - 1) (drop 1 xs)
first_and_rest [] x h e = absurd (omega arith)
first_and_rest (y ∷ xs) x h e =
    let less : suc (length xs) - 1 ≡ length xs = omega arith in
    λ k. sym e k ∷ sym (ap (λ n. take n xs) less ∙ take_all xs) k

later : (i : ℕ) (xs : List Symbol) (vs : List Value) (x y : Symbol) → i < length xs → i < length vs → y ≡ get_or xs i y → symbol_eq x y ≡ false
    → lookup_by symbol_eq (zip (drop i xs) (drop i vs)) x ≡ lookup_by symbol_eq (zip (drop (suc i) xs) (drop (suc i) vs)) x
later zero (z ∷ xs) (v ∷ vs) x y h k e f =
    ap (λ w. cond (symbol_eq x w) (Some v) (lookup_by symbol_eq (zip xs vs) x)) (sym e) ∙ ap (λ b. cond b (Some v) (lookup_by symbol_eq (zip xs vs) x)) f
later (suc i) (z ∷ xs) (v ∷ vs) x y h k e f = later i xs vs x y (omega arith) (omega arith) e f
later i [] vs x y h k e f = absurd (omega arith)
later i (z ∷ xs) [] x y h k e f = absurd (omega arith)

-- what isn't the formal at a place is bound later
pub bound_next : (i : ℕ) (xs : List Symbol) (vs : List Value) (x y : Symbol) → i < length xs → i < length vs → y ≡ get_or xs i y → symbol_eq x y ≡ false
    → lookup_by symbol_eq (zip (drop (i + 1) xs) (drop (i + 1) vs)) x ≡ lookup_by symbol_eq (zip (drop i xs) (drop i vs)) x
bound_next i xs vs x y h k e f =
    let more : i + 1 ≡ suc i = omega arith in
    ap (λ j. lookup_by symbol_eq (zip (drop j xs) (drop j vs)) x) more ∙ sym (later i xs vs x y h k e f)

abbrev nil_values : List Value
nil_values = []

nothing : (xs : List Symbol) → zip xs nil_values ≡ []
nothing [] = refl
nothing (x ∷ xs) = refl

-- past the end of either list nothing is bound
pub bound_end : (i : ℕ) (xs : List Symbol) (vs : List Value) → min (length xs) (length vs) ≤ i → zip (drop i xs) (drop i vs) ≡ []
bound_end zero [] vs h = refl
bound_end zero (x ∷ xs) [] h = refl
bound_end zero (x ∷ xs) (v ∷ vs) h = absurd (omega arith)
bound_end (suc i) [] vs h = refl
bound_end (suc i) (x ∷ xs) [] h = nothing (drop i xs)
bound_end (suc i) (x ∷ xs) (v ∷ vs) h = bound_end i xs vs (omega arith)
