-- The tables of a world's entries, as entries are added and taken away at the end.
use Rattle.std.proofs.Common.{◌≡◌, ℕ, zero, suc, ◌+◌, ◌-◌, Bool, true, false, cond, List, [], ◌∷◌, ◌++◌, map, length, take, Option, Some, None, slice_get, refl, sym, ap, ◌∙◌, subst, arith}
use Rattle.std.proofs.lemmas.List.{map-append, length-append}
use Rattle.std.proofs.lemmas.Option.{slice_get-get_or}
use Rattle.std.proofs.Math.ListN.{length-map}
use Rattle.ap_value.specs.declared.symbol.Symbol.{Symbol}
use Rattle.ap_value.specs.Values.{symbol_eq}
use Rattle.ap_world.specs.declared.entry.Entry.{Entry}
use Rattle.ap_world.specs.declared.entry.Entry.TheVariants as entry
use Rattle.ap_world.specs.declared.entry.Theorem.{Theorem}
use Rattle.ap_world.specs.Prescribing.{prescribed, is_name, theorems_about}
use Rattle.ap_world.specs.Kept.{Places, places_at, places_from, prescribed_in, with_place, Tabled}
use Rattle.ap_world.specs.World.{name_in, as_theorem, has_name, are_distinct}
use Rattle.ap_world.proofs.Extending.{has_name-last}
use Rattle.ap_world.proofs.Places.{distinct_more, neither}

-- the places of entries with one more at their end
pub places_end : (n : ℕ) (f : Symbol) (W : List Entry) (y : Entry) → places_from n f (W ++ y ∷ []) ≡ with_place (is_name f (prescribed_in y)) (n + length W) (places_from n f W)
places_end n f [] y = go (is_name f (prescribed_in y))
  where
    go : (b : Bool) → cond b (n ∷ []) [] ≡ with_place b (n + 0) []
    go true = ap (λ k. k ∷ []) (omega arith)
    go false = refl
places_end n f (z ∷ W) y = go (is_name f (prescribed_in z)) (is_name f (prescribed_in y)) (places_end (suc n) f W y)
  where
    further : (suc n + length W) ≡ (n + suc (length W))
    further = omega arith

    go : (b c : Bool) → places_from (suc n) f (W ++ y ∷ []) ≡ with_place c (suc n + length W) (places_from (suc n) f W)
        → cond b (n ∷ places_from (suc n) f (W ++ y ∷ [])) (places_from (suc n) f (W ++ y ∷ []))
        ≡ with_place c (n + length (z ∷ W)) (cond b (n ∷ places_from (suc n) f W) (places_from (suc n) f W))
    go true true h = ap (λ ps. n ∷ ps) (h ∙ ap (λ k. places_from (suc n) f W ++ k ∷ []) further)
    go true false h = ap (λ ps. n ∷ ps) h
    go false true h = h ∙ ap (λ k. places_from (suc n) f W ++ k ∷ []) further
    go false false h = h

pub places_end_first : (f : Symbol) (W : List Entry) (y : Entry) → places_from 0 f (W ++ y ∷ []) ≡ with_place (is_name f (prescribed_in y)) (length W) (places_from 0 f W)
places_end_first f W y =
    let n : 0 + length W ≡ length W = omega arith in
    places_end 0 f W y ∙ ap (λ k. with_place (is_name f (prescribed_in y)) k (places_from 0 f W)) n

-- the place with a number holds the theorem with that number
abbrev pub HasPlace : ℕ → Symbol → List Entry → ℕ → ℕ → Type 0
HasPlace n f W k i = (j : ℕ) × (i ≡ n + j) × (as_theorem (slice_get W j) ≡ slice_get (theorems_about f W) k)

later : (n : ℕ) (f : Symbol) (W : List Entry) (us : List Theorem) (k i : ℕ) (y : Entry) → HasPlace (suc n) f W k i → (j : ℕ) × (i ≡ n + j) × (as_theorem (slice_get (y ∷ W) j) ≡ slice_get (theorems_about f W) k)
later n f W us k i y (j, e, h) = (suc j, e ∙ omega arith, h)

pub at_number : (n : ℕ) (f : Symbol) (W : List Entry) (k i : ℕ) → slice_get (places_from n f W) k ≡ Some i → HasPlace n f W k i
at_number n f [] k i h = absurd (cc h)
at_number n f (entry.Function g ∷ W) k i h = later n f W [] k i (entry.Function g) (at_number (suc n) f W k i h)
at_number n f (entry.Constant c v ∷ W) k i h = later n f W [] k i (entry.Constant c v) (at_number (suc n) f W k i h)
at_number n f (entry.Theorem u ∷ W) k i h = go (is_name f (prescribed u)) (λ m. at_number (suc n) f W m i) k h
  where
    go : (b : Bool) → ((m : ℕ) → slice_get (places_from (suc n) f W) m ≡ Some i → HasPlace (suc n) f W m i)
        → (m : ℕ) → slice_get (cond b (n ∷ places_from (suc n) f W) (places_from (suc n) f W)) m ≡ Some i
        → (j : ℕ) × (i ≡ n + j) × (as_theorem (slice_get (entry.Theorem u ∷ W) j) ≡ slice_get (cond b (u ∷ theorems_about f W) (theorems_about f W)) m)
    go true rest zero l = let same : n ≡ i = cc in (0, sym same ∙ omega arith, refl)
    go true rest (suc m) l = later n f W [] m i (entry.Theorem u) (rest m l)
    go false rest m l = later n f W [] m i (entry.Theorem u) (rest m l)

-- where there is no place with a number there is no theorem
pub past_number : (n : ℕ) (f : Symbol) (W : List Entry) (k : ℕ) → slice_get (places_from n f W) k ≡ None → slice_get (theorems_about f W) k ≡ None
past_number n f [] k h = refl
past_number n f (entry.Function g ∷ W) k h = past_number (suc n) f W k h
past_number n f (entry.Constant c v ∷ W) k h = past_number (suc n) f W k h
past_number n f (entry.Theorem u ∷ W) k h = go (is_name f (prescribed u)) (past_number (suc n) f W) k h
  where
    go : (b : Bool) → ((m : ℕ) → slice_get (places_from (suc n) f W) m ≡ None → slice_get (theorems_about f W) m ≡ None)
        → (m : ℕ) → slice_get (cond b (n ∷ places_from (suc n) f W) (places_from (suc n) f W)) m ≡ None
        → slice_get (cond b (u ∷ theorems_about f W) (theorems_about f W)) m ≡ None
    go true rest zero l = absurd (cc l)
    go true rest (suc m) l = rest m l
    go false rest m l = rest m l

-- all but the last
pub all_but_last : {A : Type 0} (xs : List A) (x : A) → take (length (xs ++ x ∷ []) - 1) (xs ++ x ∷ []) ≡ xs
all_but_last xs x = ap (λ n. take n (xs ++ x ∷ [])) (shorter xs x) ∙ front xs x
  where
    shorter : {A : Type 0} (xs : List A) (x : A) → length (xs ++ x ∷ []) - 1 ≡ length xs
    shorter xs x = let n : length (xs ++ x ∷ []) ≡ length xs + 1 = length-append xs (x ∷ []) in omega (arith, n)

    front : {A : Type 0} (xs : List A) (x : A) → take (length xs) (xs ++ x ∷ []) ≡ xs
    front [] x = refl
    front (y ∷ xs) x = ap (λ ys. y ∷ ys) (front xs x)

pub split_last : {A : Type 0} (xs : List A) (k : ℕ) (x : A) → suc k ≡ length xs → slice_get xs k ≡ Some x → xs ≡ take k xs ++ x ∷ []
split_last [] k x n h = absurd (cc h)
split_last (y ∷ []) zero x n h = let same : y ≡ x = cc in ap (λ z. z ∷ []) same
split_last (y ∷ z ∷ xs) zero x n h = absurd (omega (arith, n))
split_last (y ∷ xs) (suc k) x n h = ap (λ ys. y ∷ ys) (split_last xs k x (omega (arith, n)) h)

pub last_of : {A : Type 0} (xs : List A) (x : A) → slice_get xs (length xs - 1) ≡ Some x → xs ≡ take (length xs - 1) xs ++ x ∷ []
last_of [] x h = absurd (cc h)
last_of (y ∷ xs) x h = split_last (y ∷ xs) (length (y ∷ xs) - 1) x (omega arith) h

pub no_last_of : {A : Type 0} (xs : List A) → slice_get xs (length xs - 1) ≡ None → xs ≡ []
no_last_of [] h = refl
no_last_of (y ∷ xs) h = absurd (cc (h, slice_get-get_or (y ∷ xs) (length (y ∷ xs) - 1) y (omega arith)))

pub distinct_less : (W : List Entry) (y : Entry) → are_distinct (W ++ y ∷ []) ≡ true → are_distinct W ≡ true
distinct_less [] y h = refl
distinct_less (z ∷ W) y h = go (has_name (W ++ y ∷ []) (name_in z)) refl (distinct_less W y) h
  where
    go : (b : Bool) → has_name (W ++ y ∷ []) (name_in z) ≡ b → (are_distinct (W ++ y ∷ []) ≡ true → are_distinct W ≡ true)
        → cond b false (are_distinct (W ++ y ∷ [])) ≡ true → are_distinct (z ∷ W) ≡ true
    go true e rest l = absurd (cc l)
    go false e rest l =
        let free : has_name W (name_in z) ≡ false = (neither (has_name W (name_in z)) (symbol_eq (name_in z) (name_in y)) (sym (has_name-last W y (name_in z)) ∙ e)).0 in
        ap (λ b. cond b false (are_distinct W)) free ∙ rest l

-- with one entry more
pub tabled_more : (W : List Entry) (names more : List Symbol) (table other : Places) (y : Entry) (x : Symbol) (about : Option Symbol)
    → Tabled W names table → has_name W (name_in y) ≡ false → x ≡ name_in y → about ≡ prescribed_in y → more ≡ names ++ x ∷ []
    → ((f : Symbol) → places_at other f ≡ with_place (is_name f about) (length names) (places_at table f))
    → Tabled (W ++ y ∷ []) more other
tabled_more W names more table other y x about tabled free name_is about_is named placed = record {
  distinct = distinct_more W y tabled.distinct free;
  named = named ∙ ap (λ ns. ns ++ x ∷ []) tabled.named ∙ ap (λ z. map name_in W ++ z ∷ []) name_is ∙ sym (map-append name_in W (y ∷ []));
  placed = λ f. placed f
      ∙ ap (λ o. with_place (is_name f o) (length names) (places_at table f)) about_is
      ∙ ap (λ n. with_place (is_name f (prescribed_in y)) n (places_at table f)) (ap length tabled.named ∙ length-map W name_in)
      ∙ ap (with_place (is_name f (prescribed_in y)) (length W)) (tabled.placed f)
      ∙ sym (places_end_first f W y);
}

-- with one less
pub tabled_less : (W : List Entry) (names fewer : List Symbol) (table other : Places) (y : Entry)
    → Tabled (W ++ y ∷ []) names table → fewer ≡ take (length names - 1) names
    → ((f : Symbol) (places : List ℕ) (place : ℕ) → places_at table f ≡ with_place (is_name f (prescribed_in y)) place places → places_at other f ≡ places)
    → Tabled W fewer other
tabled_less W names fewer table other y tabled named placed = record {
  distinct = distinct_less W y tabled.distinct;
  named = named ∙ ap (λ ns. take (length ns - 1) ns) (tabled.named ∙ map-append name_in W (y ∷ [])) ∙ all_but_last (map name_in W) (name_in y);
  placed = λ f. placed f (places_from 0 f W) (length W) (tabled.placed f ∙ places_end_first f W y);
}

-- what the tables tell of a number
pub told_none : (W seen : List Entry) (table : Places) (f : Symbol) (k : ℕ) (o : Option ℕ) → W ≡ seen → places_at table f ≡ places_from 0 f W
    → o ≡ slice_get (places_at table f) k → o ≡ None → slice_get (theorems_about f seen) k ≡ None
told_none W seen table f k o same placed told none =
    ap (λ X. slice_get (theorems_about f X) k) (sym same)
    ∙ past_number 0 f W k (ap (λ ps. slice_get ps k) (sym placed) ∙ sym told ∙ none)

pub told_some : (W seen : List Entry) (table : Places) (f : Symbol) (k i : ℕ) (o : Option ℕ) → W ≡ seen → places_at table f ≡ places_from 0 f W
    → o ≡ slice_get (places_at table f) k → o ≡ Some i → as_theorem (slice_get W i) ≡ slice_get (theorems_about f seen) k
told_some W seen table f k i o same placed told some =
    let (j, at, found) = at_number 0 f W k i (ap (λ ps. slice_get ps k) (sym placed) ∙ sym told ∙ some) in
    ap (λ m. as_theorem (slice_get W m)) (at ∙ omega arith) ∙ found ∙ ap (λ X. slice_get (theorems_about f X) k) same

-- the list and its tables without the last entry, where there is one
pub cut_last : (W left : List Entry) (k : ℕ) (names fewer : List Symbol) (table other : Places) (y : Entry) (about : Option Symbol)
    → Tabled W names table → k ≡ length W - 1 → Some y ≡ slice_get W k → left ≡ take k W → about ≡ prescribed_in y → fewer ≡ take (length names - 1) names
    → ((f : Symbol) (places : List ℕ) (place : ℕ) → places_at table f ≡ with_place (is_name f about) place places → places_at other f ≡ places)
    → Tabled left fewer other
cut_last W left k names fewer table other y about tabled at there left_is about_is named placed =
    let whole : W ≡ take (length W - 1) W ++ y ∷ [] = last_of W y (ap (slice_get W) (sym at) ∙ sym there) in
    subst (λ X. Tabled X fewer other) (sym (left_is ∙ ap (λ n. take n W) at))
    (tabled_less (take (length W - 1) W) names fewer table other y (subst (λ X. Tabled X names table) whole tabled) named
    (λ f places place h. placed f places place (h ∙ ap (λ o. with_place (is_name f o) place places) (sym about_is))))

pub cut_none : (W left : List Entry) (k : ℕ) (names : List Symbol) (table : Places)
    → Tabled W names table → k ≡ length W - 1 → None ≡ slice_get W k → left ≡ take k W → Tabled left names table
cut_none W left k names table tabled at none left_is =
    let empty : W ≡ [] = no_last_of W (ap (slice_get W) (sym at) ∙ sym none) in
    subst (λ X. Tabled X names table) (empty ∙ sym (take_none k) ∙ ap (take k) (sym empty) ∙ sym left_is) tabled
  where
    none_yet : List Entry
    none_yet = []

    take_none : (n : ℕ) → take n none_yet ≡ []
    take_none zero = refl
    take_none (suc n) = refl
