-- Files by the places of their names.
use Rattle.std.proofs.Common.{◌≡◌, ◌≢◌, ℕ, ◌+◌, ◌<◌, ◌≤◌, Bool, true, false, cond, List, [], ◌∷◌, ◌++◌, length, get_or, set, drop, Option, Some, None, refl, sym, ap, subst, ◌∙◌, add-one, suc, arith}
use Rattle.std.specs.Prelude.{option_map}
use Rattle.std.specs.Str.{bytes_eq}
use Rattle.std.proofs.lemmas.List.{at_drop_more, at_drop_all}
use Rattle.std.proofs.lemmas.Slice.Eq.{bytes_eq-Decides}
use Rattle.ap_outside.specs.Files.{Files, bytes_at, place_of}

same_name : (name : List ℕ) → bytes_eq name name ≡ true
same_name name = (bytes_eq-Decides name name).1 refl

other_name : (name other : List ℕ) → other ≢ name → bytes_eq other name ≡ false
other_name name other differ = by_test (bytes_eq other name) refl
  where
    by_test : (b : Bool) → bytes_eq other name ≡ b → bytes_eq other name ≡ false
    by_test true e = absurd (differ ((bytes_eq-Decides other name).0 e))
    by_test false e = e

-- the place in what is left of the files, counted from the first file
abbrev pub place_from : ℕ → Files → List ℕ → Option ℕ
place_from i files name = option_map (λ place. i + place) (place_of files name)

one_on : (i : ℕ) (o : Option ℕ) → option_map (λ place. i + place) (option_map (λ place. place + 1) o) ≡ option_map (λ place. i + 1 + place) o
one_on i None = refl
one_on i (Some place) = ap Some (omega arith)

pub place_more : (i : ℕ) (files : Files) (name : List ℕ) (d : List ℕ × List ℕ) → i < length files
    → bytes_eq name (get_or files i d).0 ≡ false → place_from i (drop i files) name ≡ place_from (i + 1) (drop (i + 1) files) name
place_more i files name d h e =
    ap (option_map (λ place. i + place)) (at_drop_more (λ rest. place_of rest name) files i d h) ∙ rw e (one_on i (place_of (drop (i + 1) files) name))

pub place_found : (i : ℕ) (files : Files) (name : List ℕ) (d : List ℕ × List ℕ) → i < length files
    → bytes_eq name (get_or files i d).0 ≡ true → place_from i (drop i files) name ≡ Some i
place_found i files name d h e =
    ap (option_map (λ place. i + place)) (at_drop_more (λ rest. place_of rest name) files i d h) ∙ rw e (ap Some (omega arith))

pub place_none : (i : ℕ) (files : Files) (name : List ℕ) → length files ≤ i → place_from i (drop i files) name ≡ None
place_none i files name h = ap (λ place. option_map (λ p. i + p) place) (at_drop_all (λ rest. place_of rest name) files i h)

from_none : (o : Option ℕ) → option_map (λ place. 0 + place) o ≡ o
from_none None = refl
from_none (Some place) = ap Some (omega arith)

pub place_first : (files : Files) (name : List ℕ) → place_from 0 files name ≡ place_of files name
place_first files name = from_none (place_of files name)

pub ruleset steps = (place_more, place_found, place_none, place_first)

next_file : (files : Files) (file d : List ℕ × List ℕ) (o : Option ℕ)
    → option_map (λ place. (get_or files place d).1) o ≡ option_map (λ place. (get_or (file ∷ files) place d).1) (option_map (λ place. place + 1) o)
next_file files file d None = refl
next_file files file d (Some place) = rw (add-one place) refl

-- the bytes at a name are those at its place
pub bytes_at-place : (files : Files) (name : List ℕ) (d : List ℕ × List ℕ)
    → bytes_at files name ≡ option_map (λ place. (get_or files place d).1) (place_of files name)
bytes_at-place [] name d = refl
bytes_at-place (file ∷ files) name d = by_test (bytes_eq name file.0) (bytes_at-place files name d)
  where
    by_test : (b : Bool) → bytes_at files name ≡ option_map (λ place. (get_or files place d).1) (place_of files name)
        → cond b (Some file.1) (bytes_at files name) ≡ option_map (λ place. (get_or (file ∷ files) place d).1) (cond b (Some 0) (option_map (λ place. place + 1) (place_of files name)))
    by_test true rest = refl
    by_test false rest = rest ∙ next_file files file d (place_of files name)

-- and nothing where it has no place
pub bytes_at_place : (files : Files) (name : List ℕ) (place : ℕ) (file : List ℕ × List ℕ) → place_of files name ≡ Some place → file ≡ get_or files place file → bytes_at files name ≡ Some file.1
bytes_at_place files name place file at e =
    bytes_at-place files name file ∙ rw at (ap (λ found. Some found.1) (sym e))

pub bytes_at_none : (files : Files) (name : List ℕ) → place_of files name ≡ None → bytes_at files name ≡ None
bytes_at_none files name at = bytes_at-place files name ([], []) ∙ rw at refl

-- `new` is `old` but for the bytes at a name
abbrev pub PutAt : List ℕ → List ℕ → Files → Files → Type 0
PutAt name bytes old new =
    (bytes_at new name ≡ Some bytes) × ((other : List ℕ) → other ≢ name → bytes_at new other ≡ bytes_at old other)

-- a first file of this name, whatever stood there and whatever follows
put_first : (files : Files) (file : List ℕ × List ℕ) (name bytes : List ℕ) → bytes_eq name file.0 ≡ true → PutAt name bytes (file ∷ files) ((name, bytes) ∷ files)
put_first files file name bytes e = (rw (same_name name) refl, λ other differ. others other differ)
  where
    others : (other : List ℕ) → other ≢ name → bytes_at ((name, bytes) ∷ files) other ≡ bytes_at (file ∷ files) other
    others other differ =
        let same : name ≡ file.0 = (bytes_eq-Decides name file.0).0 e in
        let mine : bytes_eq other name ≡ false = other_name name other differ in
        let its : bytes_eq other file.0 ≡ false = ap (λ text. bytes_eq other text) (sym same) ∙ mine in
        rw (mine, its) refl

-- a change behind a first file of another name
put_later : (old new : Files) (file : List ℕ × List ℕ) (name bytes : List ℕ) → bytes_eq name file.0 ≡ false → PutAt name bytes old new → PutAt name bytes (file ∷ old) (file ∷ new)
put_later old new file name bytes e p = (rw e p.0, λ other differ. ap (cond (bytes_eq other file.0) (Some file.1)) (p.1 other differ))

-- other bytes at the place of a name
pub put_at_place : (files : Files) (name bytes : List ℕ) (place : ℕ) → place_of files name ≡ Some place → PutAt name bytes files (set files place (name, bytes))
put_at_place [] name bytes place e = absurd cc
put_at_place (file ∷ files) name bytes place e =
    by_test (bytes_eq name file.0) refl (place_of files name) refl (put_at_place files name bytes) e
  where
    by_test : (b : Bool) → bytes_eq name file.0 ≡ b → (o : Option ℕ) → place_of files name ≡ o
        → ((p : ℕ) → place_of files name ≡ Some p → PutAt name bytes files (set files p (name, bytes)))
        → cond b (Some 0) (option_map (λ p. p + 1) o) ≡ Some place → PutAt name bytes (file ∷ files) (set (file ∷ files) place (name, bytes))
    by_test true e o r later h =
        let at : 0 ≡ place = cc in
        subst (λ p. PutAt name bytes (file ∷ files) (set (file ∷ files) p (name, bytes))) at (put_first files file name bytes e)
    by_test false e None r later h = absurd cc
    by_test false e (Some p) r later h =
        let at : p + 1 ≡ place = cc in
        let next : suc p ≡ place = omega arith in
        subst (λ q. PutAt name bytes (file ∷ files) (set (file ∷ files) q (name, bytes))) next (put_later files (set files p (name, bytes)) file name bytes e (later p r))

-- a new name at the end
pub put_at_end : (files : Files) (name bytes : List ℕ) → place_of files name ≡ None → PutAt name bytes files (files ++ (name, bytes) ∷ [])
put_at_end [] name bytes e = (rw (same_name name) refl, λ other differ. rw (other_name name other differ) refl)
put_at_end (file ∷ files) name bytes e =
    by_test (bytes_eq name file.0) refl (place_of files name) refl (put_at_end files name bytes) e
  where
    by_test : (b : Bool) → bytes_eq name file.0 ≡ b → (o : Option ℕ) → place_of files name ≡ o
        → (place_of files name ≡ None → PutAt name bytes files (files ++ (name, bytes) ∷ []))
        → cond b (Some 0) (option_map (λ p. p + 1) o) ≡ None → PutAt name bytes (file ∷ files) (file ∷ (files ++ (name, bytes) ∷ []))
    by_test true e o r later h = absurd cc
    by_test false e None r later h = put_later files (files ++ (name, bytes) ∷ []) file name bytes e (later r)
    by_test false e (Some p) r later h = absurd cc
