-- The table of names finds the entries, and names stay distinct.
use Rattle.std.proofs.Common.{◌≡◌, ℕ, zero, suc, ◌+◌, ◌≤◌, Bool, true, false, cond, not, ◌||◌, List, [], ◌∷◌, ◌++◌, map, length, take, Some, None, is_some, refl, sym, ap, ◌∙◌, ltb}
use Rattle.std.proofs.Math.Numerals.{one-add}
use Rattle.std.proofs.lemmas.Bool.{ltb-false}
use Rattle.std.proofs.Math.ListN.{length-map}
use Rattle.std.specs.Prelude.{slice_get, IsTrue, ◌↔◌}
use Rattle.ap_list.specs.Lists.{is_among}
use Rattle.std.specs.List.{position, position_or_len, list_any}
use Rattle.std.proofs.lemmas.List.{append_assoc}
use Rattle.std.proofs.lemmas.Option.{slice_get_past}
use Rattle.ap_value.specs.declared.symbol.Symbol.{Symbol}
use Rattle.ap_value.specs.Values.{symbol_eq}
use Rattle.ap_value.proofs.Equals.{symbol_eq-true, symbol_eq-same}
use Rattle.ap_world.specs.declared.entry.Entry.{Entry}
use Rattle.ap_world.specs.Primitives.{prim_of}
use Rattle.ap_world.specs.declared.entry.Function.{Function}
use Rattle.ap_world.specs.declared.entry.Entry.TheVariants as entry
use Rattle.ap_world.specs.World.{name_in, entry_of, has_name, are_distinct, are_taken}
use Rattle.ap_world.proofs.Extending.{has_name-last}

-- the first place of a name holds the entry of that name, and past the end there is none
pub at_place : (W : List Entry) (x : Symbol) → slice_get W (position_or_len (symbol_eq x) (map name_in W)) ≡ entry_of W x
at_place [] x = refl
at_place (y ∷ ys) x = go (symbol_eq x (name_in y)) (at_place ys x)
  where
    rest : ℕ
    rest = position_or_len (symbol_eq x) (map name_in ys)

    go : (b : Bool) → slice_get ys rest ≡ entry_of ys x → slice_get (y ∷ ys) (cond (not b) (1 + rest) 0) ≡ cond b (Some y) (entry_of ys x)
    go true h = refl
    go false h = rw (one-add rest) h

-- where the search finds a place, the entry is there; where it finds none, no entry has the name
pub found_at : (W : List Entry) (x : Symbol) (i : ℕ) → position (symbol_eq x) (map name_in W) ≡ Some i → slice_get W i ≡ entry_of W x
found_at W x i = go (ltb k (length (map name_in W)))
  where
    k : ℕ
    k = position_or_len (symbol_eq x) (map name_in W)

    go : (b : Bool) → cond b (Some k) None ≡ Some i → slice_get W i ≡ entry_of W x
    go true h = let same : k ≡ i = cc in ap (slice_get W) (sym same) ∙ at_place W x
    go false h = cc

pub not_found : (W : List Entry) (x : Symbol) → position (symbol_eq x) (map name_in W) ≡ None → entry_of W x ≡ None
not_found W x = go (ltb k (length (map name_in W))) refl
  where
    k : ℕ
    k = position_or_len (symbol_eq x) (map name_in W)

    go : (b : Bool) → ltb k (length (map name_in W)) ≡ b → cond b (Some k) None ≡ None → entry_of W x ≡ None
    go true e h = cc
    go false e h =
        let past : length (map name_in W) ≤ k = ltb-false k (length (map name_in W)) e in
        let past_all : length W ≤ k = simp length-map at past in
        sym (at_place W x) ∙ slice_get_past W k past_all

-- an entry has a name exactly where the name is among the names
pub named_is : (W : List Entry) (x : Symbol) → list_any (symbol_eq x) (map name_in W) ≡ is_some (entry_of W x)
named_is [] x = refl
named_is (y ∷ ys) x = go (symbol_eq x (name_in y)) (named_is ys x)
  where
    go : (b : Bool) → list_any (symbol_eq x) (map name_in ys) ≡ is_some (entry_of ys x)
        → (b || list_any (symbol_eq x) (map name_in ys)) ≡ is_some (cond b (Some y) (entry_of ys x))
    go true h = refl
    go false h = h

-- a test of names and the same test the other way round
pub symbol_eq-false : (x y : Symbol) → symbol_eq x y ≡ false → symbol_eq y x ≡ false
symbol_eq-false x y h = go (symbol_eq y x) refl
  where
    go : (b : Bool) → symbol_eq y x ≡ b → b ≡ false
    go true e = let same : y ≡ x = symbol_eq-true y x e in absurd (cc (symbol_eq-same x, ap (λ z. symbol_eq x z) same))
    go false e = refl

pub symbol_eq-turned : (x y : Symbol) → symbol_eq x y ≡ symbol_eq y x
symbol_eq-turned x y = go (symbol_eq x y) refl
  where
    go : (b : Bool) → symbol_eq x y ≡ b → b ≡ symbol_eq y x
    go true e = sym (symbol_eq-same x) ∙ ap (λ z. symbol_eq z x) (symbol_eq-true x y e)
    go false e = sym (symbol_eq-false x y e)

pub neither : (a b : Bool) → (a || b) ≡ false → (a ≡ false) × (b ≡ false)
neither true b h = cc
neither false b h = (refl, h)

pub not_either : (a b : Bool) → a ≡ false → b ≡ false → (a || b) ≡ false
not_either true b h k = cc
not_either false b h k = k

-- the parts of "the name isn't taken"
pub free_prim : (W : List Entry) (x : Symbol) → has_name W x ≡ false → is_some (prim_of x) ≡ false
free_prim W x h = (neither (is_some (prim_of x)) (is_some (entry_of W x)) h).0

pub free_entry : (W : List Entry) (x : Symbol) → has_name W x ≡ false → is_some (entry_of W x) ≡ false
free_entry W x h = (neither (is_some (prim_of x)) (is_some (entry_of W x)) h).1

-- no entry has the name where the first has another and none of the rest has it
pub free_rest : (y : Entry) (ys : List Entry) (x : Symbol) → is_some (entry_of (y ∷ ys) x) ≡ false
    → (symbol_eq x (name_in y) ≡ false) × (is_some (entry_of ys x) ≡ false)
free_rest y ys x = go (symbol_eq x (name_in y))
  where
    go : (b : Bool) → is_some (cond b (Some y) (entry_of ys x)) ≡ false → (b ≡ false) × (is_some (entry_of ys x) ≡ false)
    go true h = cc
    go false h = (refl, h)

pub free_both : (y : Entry) (ys : List Entry) (x : Symbol) → symbol_eq x (name_in y) ≡ false → is_some (entry_of ys x) ≡ false
    → is_some (entry_of (y ∷ ys) x) ≡ false
free_both y ys x e h = rw e h

-- a name that one more entry doesn't take stays free
pub free_more : (W : List Entry) (y : Entry) (x : Symbol) → is_some (entry_of W x) ≡ false → symbol_eq x (name_in y) ≡ false
    → is_some (entry_of (W ++ y ∷ []) x) ≡ false
free_more [] y x h e = free_both y [] x e refl
free_more (z ∷ zs) y x h e = let p = free_rest z zs x h in free_both z (zs ++ y ∷ []) x p.0 (free_more zs y x p.1 e)

-- with a free name at the end the names stay distinct
pub distinct_more : (W : List Entry) (y : Entry) → are_distinct W ≡ true → has_name W (name_in y) ≡ false → are_distinct (W ++ y ∷ []) ≡ true
distinct_more [] y d free = rw free refl
distinct_more (z ∷ zs) y d free =
    let own = parts (has_name zs (name_in z)) (are_distinct zs) d in
    let other = free_rest z zs (name_in y) (free_entry (z ∷ zs) (name_in y) free) in
    let apart : symbol_eq (name_in z) (name_in y) ≡ false = symbol_eq-false (name_in y) (name_in z) other.0 in
    let still : has_name (zs ++ y ∷ []) (name_in z) ≡ false =
    not_either (is_some (prim_of (name_in z))) (is_some (entry_of (zs ++ y ∷ []) (name_in z))) (free_prim zs (name_in z) own.0)
    (free_more zs y (name_in z) (free_entry zs (name_in z) own.0) apart) in
    let rest : has_name zs (name_in y) ≡ false =
    not_either (is_some (prim_of (name_in y))) (is_some (entry_of zs (name_in y))) (free_prim (z ∷ zs) (name_in y) free) other.1 in
    rw still (distinct_more zs y own.1 rest)
  where
    parts : (b c : Bool) → cond b false c ≡ true → (b ≡ false) × (c ≡ true)
    parts true c h = cc
    parts false c h = (refl, h)

-- an entry's name finds an entry
pub is_there : (W : List Entry) (i : ℕ) (y : Entry) → slice_get W i ≡ Some y → is_some (entry_of W (name_in y)) ≡ true
is_there [] i y h = cc
is_there (z ∷ zs) zero y h =
    let same : z ≡ y = cc in
    let found : symbol_eq (name_in y) (name_in z) ≡ true = ap (λ u. symbol_eq (name_in y) (name_in u)) same ∙ symbol_eq-same (name_in y) in
    rw found refl
is_there (z ∷ zs) (suc i) y h = go (symbol_eq (name_in y) (name_in z)) (is_there zs i y h)
  where
    go : (b : Bool) → is_some (entry_of zs (name_in y)) ≡ true → is_some (cond b (Some z) (entry_of zs (name_in y))) ≡ true
    go true k = refl
    go false k = k

-- of entries with distinct names, none before a place has the name of the entry there
pub distinct_before : (W : List Entry) (i : ℕ) (y : Entry) → are_distinct W ≡ true → slice_get W i ≡ Some y
    → is_some (entry_of (take i W) (name_in y)) ≡ false
distinct_before [] i y d h = cc
distinct_before (z ∷ zs) zero y d h = refl
distinct_before (z ∷ zs) (suc i) y d h =
    let own = parts (has_name zs (name_in z)) (are_distinct zs) d in
    free_both z (take i zs) (name_in y) (apart own.0) (distinct_before zs i y own.1 h)
  where
    parts : (b c : Bool) → cond b false c ≡ true → (b ≡ false) × (c ≡ true)
    parts true c e = cc
    parts false c e = (refl, e)

    apart : has_name zs (name_in z) ≡ false → symbol_eq (name_in y) (name_in z) ≡ false
    apart free = go (symbol_eq (name_in y) (name_in z)) refl
      where
        go : (b : Bool) → symbol_eq (name_in y) (name_in z) ≡ b → b ≡ false
        go true e =
            let same : name_in y ≡ name_in z = symbol_eq-true (name_in y) (name_in z) e in
            let there : is_some (entry_of zs (name_in z)) ≡ true = rw same at (is_there zs i y h) in
            cc (there, free_entry zs (name_in z) free)
        go false e = refl

-- nor has it a primitive's name
pub first_free : (z : Entry) (zs : List Entry) → are_distinct (z ∷ zs) ≡ true → (has_name zs (name_in z) ≡ false) × (are_distinct zs ≡ true)
first_free z zs = parts (has_name zs (name_in z)) (are_distinct zs)
  where
    parts : (b c : Bool) → cond b false c ≡ true → (b ≡ false) × (c ≡ true)
    parts true c e = cc
    parts false c e = (refl, e)

pub no_primitive : (W : List Entry) (i : ℕ) (y : Entry) → are_distinct W ≡ true → slice_get W i ≡ Some y → is_some (prim_of (name_in y)) ≡ false
no_primitive [] i y d h = cc
no_primitive (z ∷ zs) zero y d h =
    let same : z ≡ y = cc in
    ap (λ u. is_some (prim_of (name_in u))) (sym same) ∙ free_prim zs (name_in z) (first_free z zs d).0
no_primitive (z ∷ zs) (suc i) y d h = no_primitive zs i y (first_free z zs d).1 h

-- so each entry can be added to those before it
pub free_before : (W : List Entry) (i : ℕ) (y : Entry) → are_distinct W ≡ true → slice_get W i ≡ Some y → has_name (take i W) (name_in y) ≡ false
free_before W i y d h = not_either (is_some (prim_of (name_in y))) (is_some (entry_of (take i W) (name_in y))) (no_primitive W i y d h) (distinct_before W i y d h)

-- a test that is true exactly where two names are one is the definitions' test
pub test_is : (a b : Symbol) (r : Bool) → (IsTrue r ↔ (a ≡ b)) → r ≡ symbol_eq a b
test_is a b true h = sym (ap (λ s. symbol_eq a s) (sym (h.0 refl)) ∙ symbol_eq-same a)
test_is a b false h = go (symbol_eq a b) refl
  where
    go : (t : Bool) → symbol_eq a b ≡ t → false ≡ t
    go true e = h.1 (symbol_eq-true a b e)
    go false e = refl

-- names that are free of the world and of the first new one are free once that is added
pub free_after : (W : List Entry) (f : Function) (fs : List Function) → is_among symbol_eq f.name (map (λ g. g.name) fs) ≡ false → are_taken W fs ≡ false
    → are_taken (W ++ entry.Function f ∷ []) fs ≡ false
free_after W f [] h free = refl
free_after W f (g ∷ gs) h free =
    let other = neither (symbol_eq f.name g.name) (is_among symbol_eq f.name (map (λ g. g.name) gs)) h in
    let first = neither (has_name W g.name || is_among symbol_eq g.name (map (λ g. g.name) gs)) (are_taken W gs) free in
    let here = neither (has_name W g.name) (is_among symbol_eq g.name (map (λ g. g.name) gs)) first.0 in
    not_either _ _ (not_either _ _ (has_name-last W (entry.Function f) g.name ∙ not_either _ _ here.0 (symbol_eq-false f.name g.name other.0)) here.1)
    (free_after W f gs other.1 first.1)

-- the first of functions whose names are free can be added, and then the others
pub first_taken : (W : List Entry) (f : Function) (fs : List Function) → are_taken W (f ∷ fs) ≡ false
    → (has_name W f.name ≡ false) × (are_taken (W ++ entry.Function f ∷ []) fs ≡ false)
first_taken W f fs free =
    let first = neither (has_name W f.name || is_among symbol_eq f.name (map (λ g. g.name) fs)) (are_taken W fs) free in
    let here = neither (has_name W f.name) (is_among symbol_eq f.name (map (λ g. g.name) fs)) first.0 in
    (here.0, free_after W f fs here.1 first.1)

-- the first of a list with more at its end
front_is : {A : Type 0} (xs ys : List A) → take (length xs) (xs ++ ys) ≡ xs
front_is [] [] = refl
front_is [] (y ∷ ys) = refl
front_is (x ∷ xs) ys = ap (λ us. x ∷ us) (front_is xs ys)

pub take_front : {A : Type 0} (xs ys : List A) (n : ℕ) → n ≡ length xs → take n (xs ++ ys) ≡ xs
take_front xs ys n e = ap (λ k. take k (xs ++ ys)) e ∙ front_is xs ys

-- functions that are to come, and those that came
pub came : (W V : List Entry) (f : Function) (fs all rest : List Function) (old : List Entry) → all ≡ f ∷ rest → V ≡ W ++ entry.Function f ∷ []
    → W ++ map entry.Function all ≡ old → V ++ map entry.Function rest ≡ old
came W V f fs all rest old is more h =
    ap (λ X. X ++ map entry.Function rest) more ∙ append_assoc W (entry.Function f ∷ []) (map entry.Function rest)
    ∙ ap (λ gs. W ++ map entry.Function gs) (sym is) ∙ h
