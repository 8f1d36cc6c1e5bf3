-- Each step keeps the word's rule.
use Rattle.std.proofs.Common.{◌≡◌, ◌≢◌, ◌⊎◌, inl, inr, ℕ, zero, suc, ◌+◌, ◌≤◌, ◌<◌, min, List, [], ◌∷◌, ◌++◌, Bool, true, false, true≢false, refl, sym, ap, ◌∙◌, subst, arith, ⊎_elim}
use Rattle.std.proofs.lemmas.Bool.{cases_lt}
use Rattle.std.specs.Prelude.{slice_index, slice_set}
use mathlib.Core.Option.{some, some-ne-none, some-injective}
use lib.ListN.{get_elem?}
use Rattle.atomic_table.proofs.Lists.{at_set, at_snoc, set_again}
use Rattle.ap_word.specs.declared.family.Family.{Family}
use Rattle.ap_word.specs.declared.family.View.{View}
use Rattle.ap_word.specs.Stops.{NONE, stops_by}
use Rattle.ap_word.specs.Words.{IsStop, IsPlace, no_family, untold, told, looked, marked, unlooked, Fits, IsBlank, IsTold, Keeps}

-- all views fit after one seat's step that brings the word no higher
pub fits_set : (f : Family) (word now : ℕ) (views : List View) (id : ℕ) (w : View) → now ≤ word
    → ((j : ℕ) (u : View) → get_elem? views j ≡ some u → Fits f word u) → Fits f now w
    → (j : ℕ) (u : View) → get_elem? (slice_set views id w) j ≡ some u → Fits f now u
fits_set f word now views id w falls all mine j u e =
    ⊎_elim (λ (x : (j ≡ id) × (w ≡ u)). subst (Fits f now) x.1 mine)
    (λ (x : (j ≢ id) × (get_elem? views j ≡ some u)).
    let was = all j u x.1 in
    let low : now ≤ u.low = let below = was.low in omega arith in
    record { told = was.told; family = was.family; low = low; place = was.place })
    (at_set views id j w u e)

-- a view of one seat alone is that seat's
alone_is : (views : List View) (id : ℕ) (v only : View) → views ≡ only ∷ [] → get_elem? views id ≡ some v → only ≡ v
alone_is views id v only is at = go id (subst (λ vs. get_elem? vs id ≡ some v) is at)
  where
    go : (k : ℕ) → get_elem? (only ∷ []) k ≡ some v → only ≡ v
    go zero e = some-injective _ _ e
    go (suc k) e = absurd (some-ne-none v (sym e))

not_told : (v : View) → untold ≡ v → v.told ≡ true → ⊥
not_told v is was = true≢false (sym was ∙ sym (ap (λ (u : View). u.told) is))

-- where a seat was told its family, so were all
told_all : (word : ℕ) (views : List View) (id : ℕ) (v : View) → v.told ≡ true → get_elem? views id ≡ some v → IsBlank word views ⊎ IsTold word views → IsTold word views
told_all word views id v was at (inl blank) = absurd (not_told v (alone_is views id v untold blank.alone at) was)
told_all word views id v was at (inr is) = is

-- the word that stands in the table is the one that is kept
index_is : (words : List ℕ) (word : ℕ) → words ≡ word ∷ [] → slice_index words 0 ≡ word
index_is words word is = ap (λ ws. slice_index ws 0) is

set_is : (words : List ℕ) (word now : ℕ) → words ≡ word ∷ [] → slice_set words 0 now ≡ now ∷ []
set_is words word now is = ap (λ ws. slice_set ws 0 now) is

place_same : (f g : Family) (n : ℕ) → f ≡ g → IsPlace g n → IsPlace f n
place_same f g n is = subst (λ h. IsPlace h n) (sym is)

-- a seat's step: the word becomes `now`, which isn't higher and is a place, and the seat's view is w
keeps_step : (words : List ℕ) (views : List View) (id : ℕ) (v w : View) (now : ℕ) (k : Keeps words views) (at : get_elem? views id ≡ some v) (was : v.told ≡ true)
    → now ≤ k.word → ((f : Family) → IsPlace f k.word → Fits f k.word v → IsPlace f now × Fits f now w)
    → Keeps (slice_set words 0 now) (slice_set views id w)
keeps_step words views id v w now k at was falls moves =
    let is = told_all k.word views id v was at k.known in
    let mine = moves is.family is.place (is.all id v at) in
    record {
      word = now;
      only = set_is words k.word now k.only;
      known = inr (record { family = is.family; place = mine.0; all = fits_set is.family k.word now views id w falls is.all mine.1 });
    }

seat_fits : (words : List ℕ) (views : List View) (id : ℕ) (v : View) (k : Keeps words views) → get_elem? views id ≡ some v → v.told ≡ true
    → (IsPlace v.family k.word) × (k.word ≤ v.low)
seat_fits words views id v k at was =
    let is = told_all k.word views id v was at k.known in
    let mine = is.all id v at in
    (place_same v.family is.family k.word mine.family is.place, mine.low)

-- a look
pub look_keeps : (words : List ℕ) (views : List View) (id : ℕ) (v : View) → v.told ≡ true → Keeps words views → get_elem? views id ≡ some v
    → Keeps (slice_set words 0 (slice_index words 0)) (slice_set views id (looked v (slice_index words 0)))
    × (IsPlace v.family (slice_index words 0) × (slice_index words 0 ≤ v.low))
look_keeps words views id v was k at =
    let here = index_is words k.word k.only in
    let P : ℕ → Type 0 = λ n. Keeps (slice_set words 0 n) (slice_set views id (looked v n)) × (IsPlace v.family n × (n ≤ v.low)) in
    let knows = seat_fits words views id v k at was in
    subst P (sym here) (
      keeps_step words views id v (looked v k.word) k.word k at was (omega arith)
          (λ f place fits. (place, record { told = fits.told; family = fits.family; low = omega arith; place = place })),
      (knows.0, knows.1),
    )

min_place : (f : Family) (a b : ℕ) → IsPlace f a → IsPlace f b → IsPlace f (min a b)
min_place f a b p q = ⊎_elim (λ (e : min a b ≡ a). subst (IsPlace f) (sym e) p) (λ (e : min a b ≡ b). subst (IsPlace f) (sym e) q) (either_is a b)
  where
    either_is : (a b : ℕ) → (min a b ≡ a) ⊎ (min a b ≡ b)
    either_is a b = ⊎_elim (λ (less : a < b). inl (omega arith)) (λ (more : b ≤ a). inr (omega arith)) (cases_lt a b)

-- a mark
pub mark_keeps : (words : List ℕ) (views : List View) (id : ℕ) (v : View) (i : ℕ) → v.told ≡ true → IsStop v.family i → Keeps words views → get_elem? views id ≡ some v
    → Keeps (slice_set words 0 (min (slice_index words 0) i)) (slice_set views id (marked v i))
mark_keeps words views id v i was stops k at =
    let P : ℕ → Type 0 = λ n. Keeps (slice_set words 0 (min n i)) (slice_set views id (marked v i)) in
    subst P (sym (index_is words k.word k.only))
    (keeps_step words views id v (marked v i) (min k.word i) k at was (omega arith)
    (λ f place fits.
    let here : IsPlace f i = place_same f v.family i (sym fits.family) (inr stops) in (
      min_place f k.word i place here,
      record { told = fits.told; family = fits.family; low = let low = fits.low in omega arith; place = min_place f v.low i fits.place here },
    )))

-- a second seat
pub split_keeps : (words : List ℕ) (views : List View) (id : ℕ) (v : View) → v.told ≡ true → Keeps words views → get_elem? views id ≡ some v
    → Keeps words (slice_set views id v ++ unlooked v ∷ [])
split_keeps words views id v was k at =
    let is = told_all k.word views id v was at k.known in
    let mine = is.all id v at in
    record {
      word = k.word;
      only = k.only;
      known = inr (record {
        family = is.family;
        place = is.place;
        all = λ j u e.
            ⊎_elim (λ (old : get_elem? (slice_set views id v) j ≡ some u). is.all j u (subst (λ l. get_elem? l j ≡ some u) (set_again views id v at) old))
            (λ (new : unlooked v ≡ u). subst (Fits is.family k.word) new (record { told = mine.told; family = mine.family; low = mine.low; place = mine.place }))
            (at_snoc (slice_set views id v) (unlooked v) u j e);
      });
    }

-- the first seat is told its family
told_fits : (v : View) (f : Family) → untold ≡ v → Fits f NONE (told v f)
told_fits v f is =
    let low : v.low ≡ NONE = sym (ap (λ (u : View). u.low) is) in
    record { told = refl; family = refl; low = omega arith; place = inl low }

only_fits : (f : Family) (w : View) → Fits f NONE w → (j : ℕ) (u : View) → get_elem? (w ∷ []) j ≡ some u → Fits f NONE u
only_fits f w fits zero u e = subst (Fits f NONE) (some-injective _ _ e) fits
only_fits f w fits (suc j) u e = absurd (some-ne-none u (sym e))

told_keeps : (words : List ℕ) (id : ℕ) (v : View) (f : Family) → words ≡ NONE ∷ [] → get_elem? (untold ∷ []) id ≡ some v → Keeps words (slice_set (untold ∷ []) id (told v f))
told_keeps words zero v f only at =
    record {
      word = NONE;
      only = only;
      known = inr (record { family = f; place = inl refl; all = only_fits f (told v f) (told_fits v f (some-injective _ _ at)) });
    }
told_keeps words (suc id) v f only at = absurd (some-ne-none v (sym at))

pub tell_keeps : (words : List ℕ) (views : List View) (id : ℕ) (v : View) (f : Family) → v.told ≡ false → Keeps words views → get_elem? views id ≡ some v
    → Keeps (slice_set words 0 (slice_index words 0)) (slice_set views id (told v f))
tell_keeps words views id v f is_new k at = go k.known
  where
    go : IsBlank k.word views ⊎ IsTold k.word views → Keeps (slice_set words 0 (slice_index words 0)) (slice_set views id (told v f))
    go (inr is) = absurd (true≢false (sym (is.all id v at).told ∙ is_new))
    go (inl blank) =
        let P : List View → Type 0 = λ vs. Keeps (slice_set words 0 (slice_index words 0)) (slice_set vs id (told v f)) in
        let marks : slice_set words 0 (slice_index words 0) ≡ NONE ∷ [] =
        set_is words k.word (slice_index words 0) k.only ∙ ap (λ n. n ∷ []) (index_is words k.word k.only ∙ blank.unmarked) in
        subst P (sym blank.alone) (told_keeps _ id v f marks (subst (λ vs. get_elem? vs id ≡ some v) blank.alone at))

pub begins : Keeps (NONE ∷ []) (untold ∷ [])
begins = record { word = NONE; only = refl; known = inl (record { alone = refl; unmarked = refl }) }
