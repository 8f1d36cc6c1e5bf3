-- What polynomials are made of stays in order.
use Rattle.std.proofs.Common.{◌≡◌, ℕ, Bool, true, false, cond, ℤ, pos, ◌+ℤ◌, ◌*ℤ◌, [], ◌∷◌, Option, Some, None, refl, sym, subst, ◌∙◌, true≢false}
use Rattle.ap_list.specs.Lists.{Each}
use Rattle.ap_value.specs.Values.{int_eq}
use Rattle.ap_term.specs.declared.term.Term.{Term}
use Rattle.ap_term.specs.Equal.{term_eq}
use Rattle.ap_term.specs.Order.{term_less}
use Rattle.ap_term.proofs.Equals.{term_eq-true, term_eq-same}
use Rattle.ap_term.proofs.StrictOrder.{less-same, less-transitive}
use Rattle.ap_poly.specs.Polynomials.{Parts, Later, Ordered, and_then, narrow, with_part, after, put, add_parts, scale_parts}
use Rattle.ap_poly.proofs.Sums.{some_is, both_gave}

-- of a test that can't be true
is_false : (b : Bool) → (b ≡ true → ⊥) → b ≡ false
is_false true h = absurd (h refl)
is_false false h = refl

module _ (P : Term → Type 0) where
  -- what each atom has
  abbrev pub Atoms : Parts → Type 0
  Atoms ps = Each (λ (q : Term × ℤ). P q.0) ps

  with_part_keeps : (t : Term) (c : ℤ) (ps : Parts) → P t → Atoms ps → Atoms (with_part t c ps)
  with_part_keeps t c ps h hs = go (int_eq c (pos 0))
    where
      go : (b : Bool) → Atoms (cond b ps ((t, c) ∷ ps))
      go true = hs
      go false = (h, hs)

  pub put_keeps : (t : Term) (k : ℤ) (ps qs : Parts) → put t k ps ≡ Some qs → P t → Atoms ps → Atoms qs
  put_keeps t k [] qs e h hs = subst Atoms (sym (some_is e)) (with_part_keeps t k [] h tt)
  put_keeps t k (p ∷ ps) qs e h hs = go (put_keeps t k ps) (term_eq t p.0) (term_less t p.0) e
    where
      Next : Type 0
      Next = (us : Parts) → put t k ps ≡ Some us → P t → Atoms ps → Atoms us

      later : Next → (o : Option Parts) → put t k ps ≡ o → after p o ≡ Some qs → Atoms qs
      later next None l m = cc
      later next (Some us) l m = subst Atoms (sym (some_is m)) (hs.0, next us l h hs.1)

      met : (c : ℤ) × ((narrow (k +ℤ p.1) ≡ Some c) × (Some (with_part t c ps) ≡ Some qs)) → Atoms qs
      met (c, w) = subst Atoms (sym (some_is w.1)) (with_part_keeps t c ps h hs.1)

      go : Next → (x y : Bool)
          → cond x (and_then (narrow (k +ℤ p.1)) (λ c. Some (with_part t c ps))) (cond y (Some (with_part t k (p ∷ ps))) (after p (put t k ps))) ≡ Some qs → Atoms qs
      go next true y l = met (both_gave (narrow (k +ℤ p.1)) (λ c. Some (with_part t c ps)) qs l)
      go next false true l = subst Atoms (sym (some_is l)) (with_part_keeps t k (p ∷ ps) h hs)
      go next false false l = later next (put t k ps) refl l

  pub add_parts_keep : (ps qs ss : Parts) → add_parts ps qs ≡ Some ss → Atoms ps → Atoms qs → Atoms ss
  add_parts_keep [] qs ss e h g = subst Atoms (sym (some_is e)) g
  add_parts_keep (p ∷ ps) qs ss e h g = go (add_parts_keep ps qs) (both_gave (add_parts ps qs) (put p.0 p.1) ss e)
    where
      go : ((us : Parts) → add_parts ps qs ≡ Some us → Atoms ps → Atoms qs → Atoms us) → (us : Parts) × ((add_parts ps qs ≡ Some us) × (put p.0 p.1 us ≡ Some ss)) → Atoms ss
      go next (us, w) = put_keeps p.0 p.1 us ss w.1 h.0 (next us w.0 h.1 g)

  pub scale_parts_keep : (k : ℕ) (ps ss : Parts) → scale_parts k ps ≡ Some ss → Atoms ps → Atoms ss
  scale_parts_keep k [] ss e h = subst Atoms (sym (some_is e)) tt
  scale_parts_keep k (p ∷ ps) ss e h = first (scale_parts_keep k ps) (both_gave (narrow (pos k *ℤ p.1)) _ ss e)
    where
      Next : Type 0
      Next = (us : Parts) → scale_parts k ps ≡ Some us → Atoms ps → Atoms us

      second : Next → (c : ℤ) → (us : Parts) × ((scale_parts k ps ≡ Some us) × (Some (with_part p.0 c us) ≡ Some ss)) → Atoms ss
      second next c (us, w) = subst Atoms (sym (some_is w.1)) (with_part_keeps p.0 c us h.0 (next us w.0 h.1))

      first : Next → (c : ℤ) × ((narrow (pos k *ℤ p.1) ≡ Some c) × (and_then (scale_parts k ps) (λ qs. Some (with_part p.0 c qs)) ≡ Some ss)) → Atoms ss
      first next (c, w) = second next c (both_gave (scale_parts k ps) (λ qs. Some (with_part p.0 c qs)) ss w.1)

-- a term that isn't after t
abbrev NotAfter : Term → Term → Type 0
NotAfter t u = (term_less u t ≡ false) × (term_eq t u ≡ false)

-- what stands after p stands after what is less than p
before : (t : Term) (p : Term × ℤ) (ps : Parts) → term_less t p.0 ≡ true → Each (Later p.0) ps → Each (Later t) ps
before t p [] h hs = tt
before t p (q ∷ ps) h hs = ((is_false (term_less q.0 t) not_less, is_false (term_eq t q.0) not_same), before t p ps h hs.1)
  where
    not_less : term_less q.0 t ≡ true → ⊥
    not_less l = true≢false (sym (less-transitive q.0 t p.0 l h) ∙ hs.0.0)

    not_same : term_eq t q.0 ≡ true → ⊥
    not_same l = true≢false (sym (subst (λ u. term_less u p.0 ≡ true) (term_eq-true t q.0 l) h) ∙ hs.0.0)

with_part_ordered : (t : Term) (c : ℤ) (ps : Parts) → Each (Later t) ps → Ordered ps → Ordered (with_part t c ps)
with_part_ordered t c ps h hs = go (int_eq c (pos 0)) refl
  where
    go : (b : Bool) → int_eq c (pos 0) ≡ b → Ordered (cond b ps ((t, c) ∷ ps))
    go true e = hs
    go false e = (h, e, hs)

-- a term and one that it is, turned round
turned : (t u : Term) → term_eq t u ≡ false → term_eq u t ≡ false
turned t u h = is_false (term_eq u t) (λ l. true≢false (sym (subst (λ x. term_eq t x ≡ true) (sym (term_eq-true u t l)) (term_eq-same t)) ∙ h))

pub put_ordered : (t : Term) (k : ℤ) (ps qs : Parts) → put t k ps ≡ Some qs → Ordered ps → Ordered qs
put_ordered t k [] qs e h = subst Ordered (sym (some_is e)) (with_part_ordered t k [] tt tt)
put_ordered t k (p ∷ ps) qs e h = go (put_ordered t k ps) (term_eq t p.0) refl (term_less t p.0) refl e
  where
    Next : Type 0
    Next = (us : Parts) → put t k ps ≡ Some us → Ordered ps → Ordered us

    later : Next → term_eq t p.0 ≡ false → term_less t p.0 ≡ false → (o : Option Parts) → put t k ps ≡ o → after p o ≡ Some qs → Ordered qs
    later next i j None l m = cc
    later next i j (Some us) l m = subst Ordered (sym (some_is m)) (put_keeps (NotAfter p.0) t k ps us l (j, turned t p.0 i) h.0, h.1, next us l h.2)

    met : t ≡ p.0 → (c : ℤ) × ((narrow (k +ℤ p.1) ≡ Some c) × (Some (with_part t c ps) ≡ Some qs)) → Ordered qs
    met i (c, w) = subst Ordered (sym (some_is w.1)) (with_part_ordered t c ps (subst (λ u. Each (Later u) ps) (sym i) h.0) h.2)

    less_first : term_eq t p.0 ≡ false → term_less t p.0 ≡ true → Later t p
    less_first i j = (is_false (term_less p.0 t) (λ l. less-same t (less-transitive t p.0 t j l)), i)

    go : Next → (x : Bool) → term_eq t p.0 ≡ x → (y : Bool) → term_less t p.0 ≡ y
        → cond x (and_then (narrow (k +ℤ p.1)) (λ c. Some (with_part t c ps))) (cond y (Some (with_part t k (p ∷ ps))) (after p (put t k ps))) ≡ Some qs → Ordered qs
    go next true i y j l = met (term_eq-true t p.0 i) (both_gave (narrow (k +ℤ p.1)) (λ c. Some (with_part t c ps)) qs l)
    go next false i true j l = subst Ordered (sym (some_is l)) (with_part_ordered t k (p ∷ ps) (less_first i j, before t p ps j h.0) h)
    go next false i false j l = later next i j (put t k ps) refl l

pub add_parts_ordered : (ps qs ss : Parts) → add_parts ps qs ≡ Some ss → Ordered qs → Ordered ss
add_parts_ordered [] qs ss e h = subst Ordered (sym (some_is e)) h
add_parts_ordered (p ∷ ps) qs ss e h = go (add_parts_ordered ps qs) (both_gave (add_parts ps qs) (put p.0 p.1) ss e)
  where
    go : ((us : Parts) → add_parts ps qs ≡ Some us → Ordered qs → Ordered us) → (us : Parts) × ((add_parts ps qs ≡ Some us) × (put p.0 p.1 us ≡ Some ss)) → Ordered ss
    go next (us, w) = put_ordered p.0 p.1 us ss w.1 (next us w.0 h)

pub scale_parts_ordered : (k : ℕ) (ps ss : Parts) → scale_parts k ps ≡ Some ss → Ordered ps → Ordered ss
scale_parts_ordered k [] ss e h = subst Ordered (sym (some_is e)) tt
scale_parts_ordered k (p ∷ ps) ss e h = first (scale_parts_ordered k ps) (both_gave (narrow (pos k *ℤ p.1)) _ ss e)
  where
    Next : Type 0
    Next = (us : Parts) → scale_parts k ps ≡ Some us → Ordered ps → Ordered us

    second : Next → (c : ℤ) → (us : Parts) × ((scale_parts k ps ≡ Some us) × (Some (with_part p.0 c us) ≡ Some ss)) → Ordered ss
    second next c (us, w) = subst Ordered (sym (some_is w.1)) (with_part_ordered p.0 c us (scale_parts_keep (NotAfter p.0) k ps us w.0 h.0) (next us w.0 h.2))

    first : Next → (c : ℤ) × ((narrow (pos k *ℤ p.1) ≡ Some c) × (and_then (scale_parts k ps) (λ qs. Some (with_part p.0 c qs)) ≡ Some ss)) → Ordered ss
    first next (c, w) = second next c (both_gave (scale_parts k ps) (λ qs. Some (with_part p.0 c qs)) ss w.1)
