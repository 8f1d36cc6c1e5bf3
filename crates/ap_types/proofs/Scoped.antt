-- Contexts behind the facts that a term is asked under, and what all of these leave of its types.
use Rattle.std.proofs.Common.{◌≡◌, ◌≢◌, ℕ, zero, suc, ◌+◌, List, [], ◌∷◌, ◌++◌, refl, ap, ◌∙◌, sym, subst, Bool, length, take, drop, get_or, Result, Ok, Err, OnOk, OnErr, ◌≤◌, ◌<◌, arith}
use Rattle.std.proofs.lemmas.List.{append-nil, append_assoc, at_drop_all}
use Rattle.ap_term.specs.declared.term.Term.{Term}
use Rattle.ap_kernel.specs.declared.objects.Ctx.{Ctx}
use Rattle.ap_world.specs.Facts.{Facts}
use Rattle.ap_world.specs.Assume.{assume}
use Rattle.ap_world.specs.Kinds.{all}
use Rattle.ap_world.specs.Narrowing.{leaves, cut}
use Rattle.std.specs.Int.Bits.{bit_and}
use Rattle.ap_types.specs.Scopes.{entered, in_scope}
use Rattle.ap_types.specs.Spoken.{Marks, AreApart, Unspoken, left_alone}
use Rattle.ap_types.proofs.Unspoken.{some_alone, unspoken_more, unspoken_still}

-- a mask cut by the facts of each context in turn
abbrev pub cut_each : List Ctx → Term → ℕ → ℕ
cut_each [] u m = m
cut_each (c ∷ cs) u m = cut_each cs u (cut c.0 u m)

pub cut_both : (fs gs : Facts) (u : Term) (m : ℕ) → cut (fs ++ gs) u m ≡ cut gs u (cut fs u m)
cut_both [] gs u m = refl
cut_both (f ∷ fs) gs u m = cut_both fs gs u (bit_and m (leaves u f.0 f.1))

cut_entered : (cs : List Ctx) (u : Term) (m : ℕ) → cut_each cs u m ≡ cut (entered cs) u m
cut_entered [] u m = refl
cut_entered (c ∷ cs) u m = cut_entered cs u (cut c.0 u m) ∙ sym (cut_both c.0 (entered cs) u m)

-- where no context is left
pub cut_end : (fs : Facts) (cs : List Ctx) (i : ℕ) (u : Term) (m n : ℕ) → length cs ≤ i → cut_each (drop i cs) u n ≡ cut_each cs u (cut fs u m)
    → n ≡ cut (in_scope fs cs) u m
cut_end fs cs i u m n l h =
    sym (at_drop_all (λ ds. cut_each ds u n) cs i l) ∙ h ∙ cut_entered cs u (cut fs u m) ∙ sym (cut_both fs (entered cs) u m)

-- one context more
one_more : (cs : List Ctx) (c : Ctx) → entered (cs ++ c ∷ []) ≡ entered cs ++ c.0
one_more [] c = append-nil c.0
one_more (d ∷ cs) c = ap (λ fs. d.0 ++ fs) (one_more cs c) ∙ sym (append_assoc d.0 (entered cs) c.0)

-- a context more, of the facts that a test and its sign stand for
pub one_entered : {A E : Type 0} (r : Result A E) (old new : List Ctx) (c : Ctx) (u : Term) (s : Bool) → c.0 ≡ assume [] u s → OnOk r (new ≡ old ++ c ∷ [])
    → OnOk r ((fs : Facts) → in_scope fs new ≡ assume (in_scope fs old) u s)
one_entered (Ok x) old new c u s is h =
    let more : entered new ≡ assume (entered old) u s = ap entered h ∙ one_more old c ∙ ap (λ gs. entered old ++ gs) is in
    λ fs. ap (λ gs. fs ++ gs) more ∙ sym (append_assoc fs (entered old) (assume [] u s))
one_entered (Err x) old new c u s is h = h

-- a context that has a fact
pub some_entered : (cs : List Ctx) (i : ℕ) (c : Ctx) (m : ℕ) → i < length cs → c ≡ get_or cs i c → c.0 ≢ [] → left_alone (entered cs) m ≡ bit_and m all
some_entered [] i c m l e h = absurd (no i l)
  where
    no : (n : ℕ) → n < 0 → ⊥
    no n h = omega arith
some_entered (d ∷ cs) zero c m l e h = some_alone (d.0 ++ entered cs) m (λ q. h (ap (λ (z : Ctx). z.0) e ∙ none d.0 (entered cs) q))
  where
    none : (fs gs : Facts) → fs ++ gs ≡ [] → fs ≡ []
    none [] gs q = refl
    none (f ∷ fs) gs q = cc
some_entered (d ∷ cs) (suc i) c m l e h = go d.0 (some_entered cs i c m (below i (length cs) l) e h)
  where
    below : (n k : ℕ) → suc n < suc k → n < k
    below n k h = omega arith

    go : (fs : Facts) → left_alone (entered cs) m ≡ bit_and m all → left_alone (fs ++ entered cs) m ≡ bit_and m all
    go [] q = q
    go (f ∷ fs) q = refl

-- contexts without facts, and one more
pub none_entered : (cs : List Ctx) (i : ℕ) (c : Ctx) (fs : Facts) → i < length cs → c ≡ get_or cs i c → fs ≡ c.0 → length fs ≡ 0 → entered (take i cs) ≡ [] → entered (take (i + 1) cs) ≡ []
none_entered cs i c fs l e same few r = subst (λ n. entered (take n cs) ≡ []) (more i) (go cs i l e r)
  where
    empty : (gs : Facts) → length gs ≡ 0 → gs ≡ []
    empty [] q = refl
    empty (g ∷ gs) q = cc

    h : c.0 ≡ []
    h = sym same ∙ empty fs few

    more : (n : ℕ) → suc n ≡ n + 1
    more n = omega arith

    no : (n : ℕ) → n < 0 → ⊥
    no n h = omega arith

    below : (n k : ℕ) → suc n < suc k → n < k
    below n k h = omega arith

    first : (fs gs : Facts) → fs ++ gs ≡ [] → fs ≡ []
    first [] gs q = refl
    first (f ∷ fs) gs q = cc

    second : (fs gs : Facts) → fs ++ gs ≡ [] → gs ≡ []
    second [] gs q = q
    second (f ∷ fs) gs q = cc

    both : (fs gs : Facts) → fs ≡ [] → gs ≡ [] → fs ++ gs ≡ []
    both fs gs p q = ap (λ z. z ++ gs) p ∙ q

    go : (ds : List Ctx) (n : ℕ) → n < length ds → c ≡ get_or ds n c → entered (take n ds) ≡ [] → entered (take (suc n) ds) ≡ []
    go [] n l e r = absurd (no n l)
    go (d ∷ ds) zero l e r = both d.0 [] (sym (ap (λ (z : Ctx). z.0) e) ∙ h) refl
    go (d ∷ ds) (suc n) l e r = both d.0 (entered (take (suc n) ds)) (first d.0 (entered (take n ds)) r) (go ds n (below n (length ds) l) e (second d.0 (entered (take n ds)) r))

-- notes of contexts, one of which is new
pub enter_notes : {A E : Type 0} (r : Result A E) (old new : List Bool) (cs ds : List Ctx) (c : Ctx) → Unspoken old (entered cs) → Marks old new (AreApart c.0) → OnOk r (ds ≡ cs ++ c ∷ []) → OnErr r (ds ≡ cs) → Unspoken new (entered ds)
enter_notes (Ok x) old new cs ds c h m y n = subst (Unspoken new) (sym (ap entered y ∙ one_more cs c)) (unspoken_more old new (entered cs) c.0 h m)
enter_notes (Err x) old new cs ds c h m y n = subst (λ es. Unspoken new (entered es)) (sym n) (unspoken_still old new (entered cs) c.0 h m)

-- and of the first ones
pub leave_notes : (notes : List Bool) (cs : List Ctx) (k : ℕ) → Unspoken notes (entered cs) → Unspoken notes (entered (take k cs))
leave_notes notes cs k h u free = first cs k (h u free)
  where
    left : (fs gs : Facts) → AreApart (fs ++ gs) u → AreApart fs u × AreApart gs u
    left [] gs p = (tt, p)
    left (f ∷ fs) gs p = let r = left fs gs p.1 in ((p.0, r.0), r.1)

    both : (fs gs : Facts) → AreApart fs u → AreApart gs u → AreApart (fs ++ gs) u
    both [] gs p q = q
    both (f ∷ fs) gs p q = (p.0, both fs gs p.1 q)

    first : (ds : List Ctx) (n : ℕ) → AreApart (entered ds) u → AreApart (entered (take n ds)) u
    first ds zero p = tt
    first [] (suc n) p = tt
    first (d ∷ ds) (suc n) p = let r = left d.0 (entered ds) p in both d.0 (entered (take n ds)) r.0 (first ds n r.1)
