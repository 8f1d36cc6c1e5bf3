-- What facts leave alone, by the places that are noted of them.
use Rattle.std.proofs.Common.{◌≡◌, ◌≢◌, ℕ, zero, suc, ◌+◌, ◌<◌, Bool, true, false, cond, nat_eq, List, [], ◌∷◌, ◌++◌, length, take, set, get_or, refl, sym, ap, ◌∙◌, subst, Option, Some, arith}
use Rattle.std.specs.Int.Bits.{bit_and}
use Rattle.std.proofs.lemmas.Bool.Decides.{nat_tests}
use Rattle.std.proofs.lemmas.Nat.{and_assoc}
use Rattle.std.proofs.lemmas.List.{get_or-set_same, get_or-set_other}
use Rattle.ap_list.specs.Lists.{Each}
use Rattle.ap_value.specs.declared.symbol.Symbol.{Symbol}
use Rattle.ap_value.specs.declared.value.Value.{Value}
use Rattle.ap_term.specs.declared.term.Term.{Term, out-Term, Var, Quote, Call}
use Rattle.ap_term.specs.declared.term.Term.TheVariants.{outs-Var, outs-Quote, outs-Call}
use Rattle.ap_term.specs.Equal.{term_eq}
use Rattle.ap_term.proofs.Equals.{term_eq-true}
use Rattle.ap_world.specs.declared.primitive.Primitive.{Primitive as Prim}
use Rattle.ap_world.specs.Primitives.{prim_of}
use Rattle.ap_world.specs.Types.{positive_bit, negative_bit}
use Rattle.ap_world.specs.Facts.{Facts}
use Rattle.ap_world.specs.Shapes.{Shape, constant, shape_of}
use Rattle.ap_world.specs.Kinds.{all}
use Rattle.ap_world.specs.Narrowing.{by_itself, by_pair, by_parts, leaves, cut}
use Rattle.ap_types.specs.Sides.{by_side}
use Rattle.ap_types.specs.Spoken.{place, IsFree, Marks, IsSilentSide, AreSilent, AreApart, IsSilent, Unspoken, left_alone}
use Rattle.ap_types.proofs.Sides.{by_both}

eq_yes : (a b : ℕ) → nat_eq a b ≡ true → a ≡ b
eq_yes a b h = grind (arith, nat_tests)

eq_no : (a b : ℕ) → nat_eq a b ≡ false → a ≢ b
eq_no a b h = grind (arith, nat_tests)

-- terms at two places are two
pub apart : (t u : Term) → place u ≢ place t → term_eq t u ≡ false
apart t u h = go (term_eq t u) refl
  where
    go : (b : Bool) → term_eq t u ≡ b → term_eq t u ≡ false
    go true e = absurd (h (ap place (sym (term_eq-true t u e))))
    go false e = e

-- a place that is noted is free no longer
pub marked : (notes : List Bool) (i : ℕ) (t : Term) → i ≡ place t → i < length notes → Marks notes (set notes i true) (λ u. term_eq t u ≡ false)
marked notes i t e l u free = go (nat_eq (place u) i) refl
  where
    go : (b : Bool) → nat_eq (place u) i ≡ b → IsFree notes u × (term_eq t u ≡ false)
    go true h =
        let same : place u ≡ i = eq_yes (place u) i h in
        let is : get_or (set notes i true) (place u) false ≡ true = subst (λ j. get_or (set notes i true) j false ≡ true) (sym same) (get_or-set_same notes i true false l) in
        cc
    go false h =
        let other : place u ≢ i = eq_no (place u) i h in
        (sym (get_or-set_other notes i (place u) true false other) ∙ free, apart t u (λ q. other (q ∙ sym e)))

-- two notes, one after another
pub marks_both : (P Q : Term → Type 0) (a b c : List Bool) → Marks a b P → Marks b c Q → Marks a c (λ u. P u × Q u)
marks_both P Q a b c p q u free = let r = q u free in let s = p u r.0 in (s.0, (s.1, r.1))

pub marks_as : (P Q : Term → Type 0) (a b : List Bool) → ((u : Term) → P u → Q u) → Marks a b P → Marks a b Q
marks_as P Q a b f p u free = let r = p u free in (r.0, f u r.1)

-- of a side that is another term nothing is said, whatever the other one is
pub side_apart : (a b u : Term) → term_eq a u ≡ false → IsSilentSide a b u
side_apart a b u h s o m = subst (λ c. by_side c s o m (shape_of b) ≡ all) (sym h) (go (shape_of b))
  where
    go : (y : Shape Term) → by_side false s o m y ≡ all
    go (constant v) = refl
    go y = refl

itself_apart : (f u : Term) (s : Bool) → term_eq f u ≡ false → by_itself u f s ≡ all
itself_apart f u s h = rw h refl

parts_silent : (g : Symbol) (ts : List Term) (u : Term) (s : Bool) → AreSilent ts u → by_parts u s (out-Term (Call g ts)) ≡ all
parts_silent g [] u s h = rw (outs-Call g []) refl
parts_silent g (a ∷ []) u s h = rw (outs-Call g (a ∷ []), h) refl
parts_silent g (a ∷ b ∷ []) u s h = rw (outs-Call g (a ∷ b ∷ [])) (sym (by_both u s (prim_of g) a b) ∙ rw (h.0 s (prim_of g) negative_bit, h.1 s (prim_of g) positive_bit) refl)
parts_silent g (a ∷ b ∷ c ∷ ts) u s h = rw (outs-Call g (a ∷ b ∷ c ∷ ts)) refl

-- a fact that says nothing of its parts leaves another term alone
pub silent_call : (f u : Term) (g : Symbol) (ts : List Term) → f ≡ Call g ts → term_eq f u ≡ false → AreSilent ts u → IsSilent f u
silent_call f u g ts e h k s = rw (itself_apart f u s h) (ap (λ z. bit_and all (by_parts u s (out-Term z))) e ∙ ap (bit_and all) (parts_silent g ts u s k))

-- and so does one that is no call
pub silent_var : (f u : Term) (x : Symbol) → f ≡ Var x → term_eq f u ≡ false → IsSilent f u
silent_var f u x e h s = rw (itself_apart f u s h) (ap (λ z. bit_and all (by_parts u s (out-Term z))) e ∙ rw (outs-Var x) refl)

pub silent_quote : (f u : Term) (v : Value) → f ≡ Quote v → term_eq f u ≡ false → IsSilent f u
silent_quote f u v e h s = rw (itself_apart f u s h) (ap (λ z. bit_and all (by_parts u s (out-Term z))) e ∙ rw (outs-Quote v) refl)

-- facts that leave a term alone leave the types of it that there are
pub cut_silent : (f : Term × Bool) (fs : Facts) (u : Term) (m : ℕ) → Each (λ (g : Term × Bool). leaves u g.0 g.1 ≡ all) (f ∷ fs) → cut (f ∷ fs) u m ≡ bit_and m all
cut_silent f [] u m e = ap (bit_and m) e.0
cut_silent f (g ∷ fs) u m e =
    ap (λ n. cut (g ∷ fs) u (bit_and m n)) e.0 ∙ cut_silent g fs u (bit_and m all) e.1 ∙ and_assoc all m all

-- a fact more
pub each_next : (P : Term × Bool → Type 0) (fs : Facts) (i : ℕ) (f : Term × Bool) → i < length fs → f ≡ get_or fs i f → Each P (take i fs) → P f → Each P (take (suc i) fs)
each_next P [] i f l e r p = absurd (no i l)
  where
    no : (n : ℕ) → n < 0 → ⊥
    no n h = omega arith
each_next P (g ∷ fs) zero f l e r p = (subst P e p, tt)
each_next P (g ∷ fs) (suc i) f l e r p = (r.0, each_next P fs i f (below i (length fs) l) e r.1 p)
  where
    below : (n k : ℕ) → suc n < suc k → n < k
    below n k h = omega arith

pub marks_next : (fs : Facts) (i : ℕ) (f : Term × Bool) (start old new : List Bool) → i < length fs → f ≡ get_or fs i f → Marks start old (AreApart (take i fs)) → Marks old new (IsSilent f.0)
    → Marks start new (AreApart (take (i + 1) fs))
marks_next fs i f start old new l e h m u free =
    let r = m u free in
    let q = h u r.0 in
    let more : suc i ≡ i + 1 = omega arith in
    (q.0, subst (λ n. AreApart (take n fs) u) more (each_next (λ (g : Term × Bool). leaves u g.0 g.1 ≡ all) fs i f l e q.1 (r.1 f.1)))

-- facts that leave a term alone
pub cut_alone : (fs : Facts) (u : Term) (m : ℕ) → AreApart fs u → cut fs u m ≡ left_alone fs m
cut_alone [] u m e = refl
cut_alone (f ∷ fs) u m e = cut_silent f fs u m e

-- where the place of a term is free the facts leave its types alone
pub cut_free : (fs : Facts) (notes : List Bool) (i : ℕ) (u : Term) (m : ℕ) → Unspoken notes fs → i ≡ place u → get_or notes i false ≡ false → left_alone fs m ≡ cut fs u m
cut_free fs notes i u m h e free = sym (cut_alone fs u m (h u (subst (λ j. get_or notes j false ≡ false) e free)))

pub some_alone : (fs : Facts) (m : ℕ) → fs ≢ [] → left_alone fs m ≡ bit_and m all
some_alone [] m h = absurd (h refl)
some_alone (f ∷ fs) m h = refl

apart_both : (fs gs : Facts) (u : Term) → AreApart fs u → AreApart gs u → AreApart (fs ++ gs) u
apart_both [] gs u p q = q
apart_both (f ∷ fs) gs u p q = (p.0, apart_both fs gs u p.1 q)

-- notes of facts and of more
pub unspoken_more : (old new : List Bool) (fs gs : Facts) → Unspoken old fs → Marks old new (AreApart gs) → Unspoken new (fs ++ gs)
unspoken_more old new fs gs h m u free = let r = m u free in apart_both fs gs u (h u r.0) r.1

pub unspoken_still : (old new : List Bool) (fs gs : Facts) → Unspoken old fs → Marks old new (AreApart gs) → Unspoken new fs
unspoken_still old new fs gs h m u free = h u (m u free).0
