-- The world that includes a book's entries is sound, and has all that the two have.
use Rattle.std.proofs.Common.{◌≡◌, Bool, true, false, cond, not, List, [], ◌∷◌, ◌++◌, Option, Some, None, is_some, refl, ap, ◌∙◌, sym, true≢false}
use Rattle.std.proofs.lemmas.List.{append-nil, append_assoc}
use Rattle.ap_list.specs.Lists.{Each}
use Rattle.ap_value.specs.declared.symbol.Symbol.{Symbol}
use Rattle.ap_value.specs.Values.{V, symbol_eq}
use Rattle.ap_value.proofs.Equals.{symbol_eq-true, symbol_eq-same}
use Rattle.ap_world.specs.declared.entry.Measure.{Measure}
use Rattle.ap_world.specs.declared.entry.Function.{Function}
use Rattle.ap_world.specs.declared.entry.Entry.{Entry}
use Rattle.ap_world.specs.declared.entry.Entry.TheVariants as entry
use Rattle.ap_world.specs.Alike.{SameButMask, DefinesAlike, alike_entry}
use Rattle.ap_world.specs.Including.{missing, is_other, has_clash, NoClash, with_missing}
use Rattle.ap_world.specs.Meaning.{Defs, CallValue, Total}
use Rattle.ap_world.specs.Primitives.{prim_of}
use Rattle.ap_world.specs.Sound.{components, Recurs, Good, Sound}
use Rattle.ap_world.specs.World.{name_in, entry_of, as_function, function_of, has_name, are_distinct}
use Rattle.ap_world.proofs.Adding.{each_append, entries_good}
use Rattle.ap_world.proofs.Alike.{call_alike, known_alike, all_known_alike, valid_alike, call_back}
use Rattle.ap_world.proofs.Alikes.{alike-same, same-alike}
use Rattle.ap_world.proofs.Extending.{entry_of-kept, entry_of-passed, extends-append, call_extend}
use Rattle.ap_world.proofs.Knowing.{each_same}
use Rattle.ap_world.proofs.Looking.{found_entry}
use Rattle.ap_world.proofs.Places.{symbol_eq-false, neither, not_either, free_prim, free_entry, free_rest, free_more, distinct_more, first_free}

-- an entry is found under its name where the names are distinct
pub found_there : (K : List Entry) → are_distinct K ≡ true → Each (λ y. entry_of K (name_in y) ≡ Some y) K
found_there [] h = tt
found_there (z ∷ K) h = (ap (λ b. cond b (Some z) (entry_of K (name_in z))) (symbol_eq-same (name_in z)), others K (found_there K rest))
  where
    parts : (b : Bool) → has_name K (name_in z) ≡ b → cond b false (are_distinct K) ≡ true → (has_name K (name_in z) ≡ false) × (are_distinct K ≡ true)
    parts true e k = cc
    parts false e k = (e, k)

    rest : are_distinct K ≡ true
    rest = (parts (has_name K (name_in z)) refl h).1

    free : is_some (entry_of K (name_in z)) ≡ false
    free = free_entry K (name_in z) (parts (has_name K (name_in z)) refl h).0

    past : (y : Entry) → entry_of K (name_in y) ≡ Some y → (b : Bool) → symbol_eq (name_in y) (name_in z) ≡ b → cond b (Some z) (entry_of K (name_in y)) ≡ Some y
    past y e true q =
        absurd (true≢false (sym (ap is_some e) ∙ ap (λ x. is_some (entry_of K x)) (symbol_eq-true (name_in y) (name_in z) q) ∙ free))
    past y e false q = e

    others : (Y : List Entry) → Each (λ y. entry_of K (name_in y) ≡ Some y) Y → Each (λ y. entry_of (z ∷ K) (name_in y) ≡ Some y) Y
    others Y es = each_same Y (λ y e. past y e (symbol_eq (name_in y) (name_in z)) refl) es

-- what a world lacks of a list is found among what is missing
pub missing_found : (W K : List Entry) (x : Symbol) → entry_of W x ≡ None → entry_of (missing W K) x ≡ entry_of K x
missing_found W [] x none = refl
missing_found W (y ∷ K) x none = go (is_some (entry_of W (name_in y))) refl (symbol_eq x (name_in y)) refl (missing_found W K x none)
  where
    go : (b : Bool) → is_some (entry_of W (name_in y)) ≡ b → (c : Bool) → symbol_eq x (name_in y) ≡ c → entry_of (missing W K) x ≡ entry_of K x
        → entry_of (cond b (missing W K) (y ∷ missing W K)) x ≡ cond c (Some y) (entry_of K x)
    go true e true q r = absurd (true≢false (sym e ∙ ap (λ z. is_some (entry_of W z)) (sym (symbol_eq-true x (name_in y) q)) ∙ ap is_some none))
    go true e false q r = r
    go false e true q r = ap (λ c. cond c (Some y) (entry_of (missing W K) x)) q
    go false e false q r = ap (λ c. cond c (Some y) (entry_of (missing W K) x)) q ∙ r

-- and is of that list
pub missing_from : (P : Entry → Type 0) (W K : List Entry) → Each P K → Each P (missing W K)
missing_from P W [] ps = tt
missing_from P W (y ∷ K) ps = go (is_some (entry_of W (name_in y))) (missing_from P W K ps.1)
  where
    go : (b : Bool) → Each P (missing W K) → Each P (cond b (missing W K) (y ∷ missing W K))
    go true r = r
    go false r = (ps.0, r)

-- what the world that includes a list has under a name: what it had, else what the list has
pub included_old : (W K : List Entry) (x : Symbol) (y : Entry) → entry_of W x ≡ Some y → entry_of (with_missing W K) x ≡ Some y
included_old W K x y h = entry_of-kept W (missing W K) x y h

pub included_new : (W K : List Entry) (x : Symbol) → entry_of W x ≡ None → entry_of (with_missing W K) x ≡ entry_of K x
included_new W K x h = entry_of-passed W (missing W K) x h ∙ missing_found W K x h

-- one entry more of a list, whose name is free there, is missing exactly where it is from the world before
missing_append : (W K L : List Entry) → missing W (K ++ L) ≡ missing W K ++ missing W L
missing_append W [] L = refl
missing_append W (y ∷ K) L = go (is_some (entry_of W (name_in y))) (missing_append W K L)
  where
    go : (b : Bool) → missing W (K ++ L) ≡ missing W K ++ missing W L → cond b (missing W (K ++ L)) (y ∷ missing W (K ++ L)) ≡ cond b (missing W K) (y ∷ missing W K) ++ missing W L
    go true r = r
    go false r = ap (λ zs. y ∷ zs) r

still_missing : (W K : List Entry) (y : Entry) → is_some (entry_of K (name_in y)) ≡ false → missing (with_missing W K) (y ∷ []) ≡ missing W (y ∷ [])
still_missing W K y free = ap (λ b. cond b [] (y ∷ [])) (go (entry_of W (name_in y)) refl)
  where
    go : (o : Option Entry) → entry_of W (name_in y) ≡ o → is_some (entry_of (with_missing W K) (name_in y)) ≡ is_some (entry_of W (name_in y))
    go (Some z) e = ap is_some (included_old W K (name_in y) z e) ∙ sym (ap is_some e)
    go None e = ap is_some (included_new W K (name_in y) e) ∙ free ∙ sym (ap is_some e)

pub missing_more : (W K L : List Entry) (y : Entry) → L ≡ K ++ y ∷ [] → is_some (entry_of K (name_in y)) ≡ false
    → with_missing (with_missing W K) (y ∷ []) ≡ with_missing W L
missing_more W K L y is free =
    ap (λ zs. with_missing W K ++ zs) (still_missing W K y free) ∙ append_assoc W (missing W K) (missing W (y ∷ []))
    ∙ ap (λ zs. W ++ zs) (sym (missing_append W K (y ∷ []))) ∙ ap (with_missing W) (sym is)

-- no name has another entry exactly where the test says so
pub no_clash : (W K : List Entry) → has_clash W K ≡ false → Each (λ y. is_other (entry_of W (name_in y)) y ≡ false) K
no_clash W [] h = tt
no_clash W (y ∷ K) h = let p = neither (is_other (entry_of W (name_in y)) y) (has_clash W K) h in (p.0, no_clash W K p.1)

clash_free : (W K : List Entry) → Each (λ y. is_other (entry_of W (name_in y)) y ≡ false) K → has_clash W K ≡ false
clash_free W [] hs = refl
clash_free W (y ∷ K) hs = not_either (is_other (entry_of W (name_in y)) y) (has_clash W K) hs.0 (clash_free W K hs.1)

module _ (y z : Entry) where
  alike_other : is_other (Some z) y ≡ false → SameButMask y z
  alike_other h = alike-same y z (go (alike_entry y z) h)
    where
      go : (b : Bool) → not b ≡ false → b ≡ true
      go true k = refl
      go false k = absurd (cc k)

  other_alike : SameButMask y z → is_other (Some z) y ≡ false
  other_alike s = ap not (same-alike y z s)

pub without_clash : (W K : List Entry) → has_clash W K ≡ false → NoClash W K
without_clash W K h x y z there here =
    let p = found_entry (λ u. is_other (entry_of W (name_in u)) u ≡ false) K x y (no_clash W K h) there in
    alike_other y z (ap (λ o. is_other o y) (sym here ∙ ap (entry_of W) (sym p.1)) ∙ p.0)

pub clash_without : (W K : List Entry) → are_distinct K ≡ true → NoClash W K → has_clash W K ≡ false
clash_without W K distinct none = clash_free W K (each_same K here (found_there K distinct))
  where
    here : (y : Entry) → entry_of K (name_in y) ≡ Some y → is_other (entry_of W (name_in y)) y ≡ false
    here y found = go (entry_of W (name_in y)) refl
      where
        go : (o : Option Entry) → entry_of W (name_in y) ≡ o → is_other o y ≡ false
        go None e = refl
        go (Some z) e = other_alike y z (none (name_in y) y z found e)

-- a function that is looked up is an entry
looked : (W : List Entry) (f : Symbol) (g : Function) (o : Option Entry) → entry_of W f ≡ o → as_function o ≡ Some g → entry_of W f ≡ Some (entry.Function g)
looked W f g (Some (entry.Function h)) e k = let same : h ≡ g = cc in e ∙ ap (λ j. Some (entry.Function j)) same
looked W f g (Some (entry.Theorem u)) e k = cc
looked W f g (Some (entry.Constant c v)) e k = cc
looked W f g None e k = cc

pub entry_function : (W : List Entry) (f : Symbol) (g : Function) → function_of W f ≡ Some g → entry_of W f ≡ Some (entry.Function g)
entry_function W f g h = looked W f g (entry_of W f) refl h

module _ (W K : List Entry) (sound : Sound W) (kept : Sound K) (distinct : are_distinct K ≡ true) (none : NoClash W K) where
  abbrev D : Defs
  D = function_of K

  abbrev E : Defs
  E = function_of (with_missing W K)

  -- the book's functions are all there, alike
  pub includes_alike : DefinesAlike D E
  includes_alike f g h = go (entry_of W f) refl
    where
      there : entry_of K f ≡ Some (entry.Function g)
      there = entry_function K f g h

      same : (z : Entry) → entry_of W f ≡ Some z → SameButMask (entry.Function g) z → (j : Function) × (E f ≡ Some j) × (g.formals ≡ j.formals) × (g.body ≡ j.body)
      same (entry.Function j) e s = (j, ap as_function (included_old W K f (entry.Function j) e), s.formals, s.body)
      same (entry.Theorem u) e s = cc
      same (entry.Constant c v) e s = cc

      go : (o : Option Entry) → entry_of W f ≡ o → (j : Function) × (E f ≡ Some j) × (g.formals ≡ j.formals) × (g.body ≡ j.body)
      go (Some z) e = same z e (none f (entry.Function g) z there e)
      go None e = (g, ap as_function (included_new W K f e ∙ there), refl, refl)

  recurs_alike : (f : Function) (o : Option Measure) → Recurs D f o → Recurs E f o
  recurs_alike f None r = r
  recurs_alike f (Some m) r = record {
    recurs = r.recurs;
    unnested = r.unnested;
    cases = r.cases;
    natural = each_same _ (valid_alike D E includes_alike) r.natural;
    falls = each_same _ (valid_alike D E includes_alike) r.falls;
  }

  -- a good entry of the book stays good
  good_alike : (y : Entry) → entry_of K (name_in y) ≡ Some y → Good D y → Good E y
  good_alike (entry.Function f) e g = record {
    formals = g.formals;
    body_speaks = g.body_speaks;
    measure_speaks = g.measure_speaks;
    body_known = known_alike D E includes_alike f.body g.body_known;
    measure_known = all_known_alike D E includes_alike (components f.measure) g.measure_known;
    given = g.given;
    recursion = recurs_alike f f.measure g.recursion;
    mask = λ vs v l h. g.mask vs v l (call_back D E kept.total includes_alike f.name f (ap as_function e) vs v l h);
  }
  good_alike (entry.Theorem u) e g = record {
    term_known = known_alike D E includes_alike u.term g.term_known;
    valid = valid_alike D E includes_alike (u.term ∷ []) g.valid;
  }
  good_alike (entry.Constant c v) e g = g

  both_each : (Y : List Entry) → Each (λ y. entry_of K (name_in y) ≡ Some y) Y → Each (Good D) Y → Each (Good E) Y
  both_each [] es gs = tt
  both_each (y ∷ Y) es gs = (good_alike y es.0 gs.0, both_each Y es.1 gs.1)

  total_included : Total E
  total_included f g vs h l = go (entry_of W f) refl
    where
      at_old : (z : Entry) → entry_of W f ≡ Some z → (v : V) × CallValue E f vs v
      at_old z e =
          let mine : function_of W f ≡ Some g = ap as_function e ∙ sym (ap as_function (included_old W K f z e)) ∙ h in
          let (v, d) = sound.total f g vs mine l in
          (v, call_extend (function_of W) E (extends-append W (missing W K)) f vs v d)

      at_new : entry_of W f ≡ None → (v : V) × CallValue E f vs v
      at_new e =
          let theirs : function_of K f ≡ Some g = sym (ap as_function (included_new W K f e)) ∙ h in
          let (v, d) = kept.total f g vs theirs l in
          (v, call_alike D E includes_alike f vs v d)

      go : (o : Option Entry) → entry_of W f ≡ o → (v : V) × CallValue E f vs v
      go (Some z) e = at_old z e
      go None e = at_new e

  pub included_sound : Sound (with_missing W K)
  included_sound = record {
    total = total_included;
    good = each_append (Good E) W (missing W K) (entries_good W (missing W K) sound)
        (both_each (missing W K) (missing_from (λ y. entry_of K (name_in y) ≡ Some y) W K (found_there K distinct)) (missing_from (Good D) W K kept.good));
  }

-- its names are distinct
missing_free : (W K : List Entry) → Each (λ y. is_some (entry_of W (name_in y)) ≡ false) (missing W K)
missing_free W [] = tt
missing_free W (y ∷ K) = go (is_some (entry_of W (name_in y))) refl (missing_free W K)
  where
    go : (b : Bool) → is_some (entry_of W (name_in y)) ≡ b → Each (λ z. is_some (entry_of W (name_in z)) ≡ false) (missing W K)
        → Each (λ z. is_some (entry_of W (name_in z)) ≡ false) (cond b (missing W K) (y ∷ missing W K))
    go true e free = free
    go false e free = (e, free)

no_entry : (o : Option Entry) → is_some o ≡ false → o ≡ None
no_entry None h = refl
no_entry (Some y) h = absurd (cc h)

missing_distinct : (W K : List Entry) → are_distinct K ≡ true → are_distinct (missing W K) ≡ true
missing_distinct W [] h = refl
missing_distinct W (y ∷ K) h = go (is_some (entry_of W (name_in y))) refl (missing_distinct W K (first_free y K h).1)
  where
    own : has_name K (name_in y) ≡ false
    own = (first_free y K h).0

    go : (b : Bool) → is_some (entry_of W (name_in y)) ≡ b → are_distinct (missing W K) ≡ true → are_distinct (cond b (missing W K) (y ∷ missing W K)) ≡ true
    go true e d = d
    go false e d =
        let free : has_name (missing W K) (name_in y) ≡ false =
        not_either (is_some (prim_of (name_in y))) (is_some (entry_of (missing W K) (name_in y))) (free_prim K (name_in y) own)
        (ap is_some (missing_found W K (name_in y) (no_entry (entry_of W (name_in y)) e)) ∙ free_entry K (name_in y) own) in
        rw free d

-- entries with other names than the first
others_named : (x : Symbol) (X : List Entry) → is_some (entry_of X x) ≡ false → Each (λ z. symbol_eq (name_in z) x ≡ false) X
others_named x [] h = tt
others_named x (z ∷ X) h = let p = free_rest z X x h in (symbol_eq-false x (name_in z) p.0, others_named x X p.1)

distinct_joined : (W X : List Entry) → are_distinct W ≡ true → are_distinct X ≡ true → Each (λ y. is_some (entry_of W (name_in y)) ≡ false) X → are_distinct (W ++ X) ≡ true
distinct_joined W [] w x free = ap are_distinct (append-nil W) ∙ w
distinct_joined W (y ∷ X) w x free =
    let own = first_free y X x in
    let more : are_distinct (W ++ y ∷ []) ≡ true =
    distinct_more W y w (not_either (is_some (prim_of (name_in y))) (is_some (entry_of W (name_in y))) (free_prim X (name_in y) own.0) free.0) in
    sym (ap are_distinct (append_assoc W (y ∷ []) X))
    ∙ distinct_joined (W ++ y ∷ []) X more own.1 (both X (others_named (name_in y) X (free_entry X (name_in y) own.0)) free.1)
  where
    both : (Z : List Entry) → Each (λ z. symbol_eq (name_in z) (name_in y) ≡ false) Z → Each (λ z. is_some (entry_of W (name_in z)) ≡ false) Z
        → Each (λ z. is_some (entry_of (W ++ y ∷ []) (name_in z)) ≡ false) Z
    both [] ps qs = tt
    both (z ∷ Z) ps qs = (free_more W y (name_in z) qs.0 ps.0, both Z ps.1 qs.1)

pub included_distinct : (W K : List Entry) → are_distinct W ≡ true → are_distinct K ≡ true → are_distinct (with_missing W K) ≡ true
included_distinct W K w k = distinct_joined W (missing W K) w (missing_distinct W K k) (missing_free W K)

-- one entry: it is left out where its name is there, and else comes at the end
pub new_there : (W : List Entry) (y : Entry) (b : Bool) → b ≡ is_some (entry_of W (name_in y)) → b ≡ true → W ≡ with_missing W (y ∷ [])
new_there W y b is h = sym (append-nil W) ∙ ap (λ c. W ++ cond c [] (y ∷ [])) (sym h ∙ is)

new_absent : (W : List Entry) (y : Entry) (b : Bool) → b ≡ is_some (entry_of W (name_in y)) → b ≡ false → W ++ y ∷ [] ≡ with_missing W (y ∷ [])
new_absent W y b is h = ap (λ c. W ++ cond c [] (y ∷ [])) (sym h ∙ is)

pub new_pushed : (W X : List Entry) (y : Entry) (b : Bool) → b ≡ is_some (entry_of W (name_in y)) → b ≡ false → X ≡ W ++ y ∷ [] → X ≡ with_missing W (y ∷ [])
new_pushed W X y b is h added = added ∙ new_absent W y b is h

pub new_free : (W : List Entry) (y : Entry) (b : Bool) → is_some (prim_of (name_in y)) ≡ false → b ≡ is_some (entry_of W (name_in y)) → b ≡ false → has_name W (name_in y) ≡ false
new_free W y b prim is h = not_either (is_some (prim_of (name_in y))) (is_some (entry_of W (name_in y))) prim (sym is ∙ h)
