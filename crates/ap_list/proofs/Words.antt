-- Two words that overlap tell all 15 bytes of a text's room.
use Rattle.std.proofs.Common.{◌≡◌, ℕ, ◌+◌, ◌<◌, ◌≤◌, ◌-◌, List, ◌++◌, take, drop, replicate, [], ◌∷◌, length, arith, refl, sym, ap, ◌∙◌, slice_index, zero, suc}
use Rattle.std.proofs.lemmas.List.{length-take-le, take-append-drop}
use Rattle.ap_list.specs.Rooms.{word, IsRoom}

-- lists of one length with the same elements are one
pub same_list : (xs ys : List ℕ) → length xs ≡ length ys → ((k : ℕ) → k < length xs → slice_index xs k ≡ slice_index ys k) → xs ≡ ys
same_list [] [] e h = refl
same_list [] (y ∷ ys) e h = absurd (omega (arith, e))
same_list (x ∷ xs) [] e h = absurd (omega (arith, e))
same_list (x ∷ xs) (y ∷ ys) e h =
    let first : x ≡ y = h 0 (omega arith) in
    let rest : xs ≡ ys = same_list xs ys (omega (arith, e)) (λ k l. h (suc k) (omega (arith, l))) in
    ap (λ z. z ∷ xs) first ∙ ap (λ zs. y ∷ zs) rest

-- alike at eight places from one on
abbrev pub Eight : List ℕ → List ℕ → ℕ → Type 0
Eight xs ys i =
    (slice_index xs i ≡ slice_index ys i) × (slice_index xs (i + 1) ≡ slice_index ys (i + 1)) × (slice_index xs (i + 2) ≡ slice_index ys (i + 2))
    × (slice_index xs (i + 3) ≡ slice_index ys (i + 3)) × (slice_index xs (i + 4) ≡ slice_index ys (i + 4)) × (slice_index xs (i + 5) ≡ slice_index ys (i + 5))
    × (slice_index xs (i + 6) ≡ slice_index ys (i + 6)) × (slice_index xs (i + 7) ≡ slice_index ys (i + 7))

-- a number has its eight digits to the base 256 in one way
pub digits : (xs ys : List ℕ) → ((k : ℕ) → slice_index xs k < 256) → ((k : ℕ) → slice_index ys k < 256) → (i : ℕ) → word xs i ≡ word ys i → Eight xs ys i
digits xs ys small_x small_y i e =
    let small : (k : ℕ) → (slice_index xs k < 256) × (slice_index ys k < 256) = λ k. (small_x k, small_y k) in
    omega (arith, e, small i, small (i + 1), small (i + 2), small (i + 3), small (i + 4), small (i + 5), small (i + 6), small (i + 7))

pub same_room : (xs ys : List ℕ) → ((k : ℕ) → slice_index xs k < 256) → ((k : ℕ) → slice_index ys k < 256) → length xs ≡ 15 → length ys ≡ 15
    → word xs 0 ≡ word ys 0 → word xs 7 ≡ word ys 7 → xs ≡ ys
same_room xs ys small_x small_y nx ny low high =
    same_list xs ys (nx ∙ sym ny) (λ k b. each (digits xs ys small_x small_y 0 low) (digits xs ys small_x small_y 7 high) k (omega (arith, b, nx)))
  where
    each : Eight xs ys 0 → Eight xs ys 7 → (k : ℕ) → k < 15 → slice_index xs k ≡ slice_index ys k
    each l h zero b = l.0
    each l h (suc zero) b = l.1
    each l h (suc (suc zero)) b = l.2
    each l h (suc (suc (suc zero))) b = l.3
    each l h (suc (suc (suc (suc zero)))) b = l.4
    each l h (suc (suc (suc (suc (suc zero))))) b = l.5
    each l h (suc (suc (suc (suc (suc (suc zero)))))) b = l.6
    each l h (suc (suc (suc (suc (suc (suc (suc zero))))))) b = l.7
    each l h (suc (suc (suc (suc (suc (suc (suc (suc zero)))))))) b = h.1
    each l h (suc (suc (suc (suc (suc (suc (suc (suc (suc zero))))))))) b = h.2
    each l h (suc (suc (suc (suc (suc (suc (suc (suc (suc (suc zero)))))))))) b = h.3
    each l h (suc (suc (suc (suc (suc (suc (suc (suc (suc (suc (suc zero))))))))))) b = h.4
    each l h (suc (suc (suc (suc (suc (suc (suc (suc (suc (suc (suc (suc zero)))))))))))) b = h.5
    each l h (suc (suc (suc (suc (suc (suc (suc (suc (suc (suc (suc (suc (suc zero))))))))))))) b = h.6
    each l h (suc (suc (suc (suc (suc (suc (suc (suc (suc (suc (suc (suc (suc (suc zero)))))))))))))) b = h.7
    each l h (suc (suc (suc (suc (suc (suc (suc (suc (suc (suc (suc (suc (suc (suc (suc k))))))))))))))) b = absurd (omega (arith, b))

-- two rooms with the same bytes at their fronts are one
pub one_room : (xs ys : List ℕ) (n m : ℕ) → IsRoom xs n → IsRoom ys m → length xs ≡ 15 → length ys ≡ 15 → take n xs ≡ take m ys → (n ≡ m) × (xs ≡ ys)
one_room xs ys n m x y nx ny same =
    let n_is : length (take n xs) ≡ n = length-take-le n xs (omega (arith, x.0, nx)) in
    let m_is : length (take m ys) ≡ m = length-take-le m ys (omega (arith, y.0, ny)) in
    let long : n ≡ m = sym n_is ∙ ap length same ∙ m_is in
    let behind : drop n xs ≡ drop m ys = x.1 ∙ ap (λ k. replicate (15 - k) 0) long ∙ sym y.1 in
    let all : xs ≡ ys = sym (take-append-drop n xs) ∙ ap (λ zs. zs ++ drop n xs) same ∙ ap (λ zs. take m ys ++ zs) behind ∙ take-append-drop m ys in
    (long, all)
