-- Sums and multiples of polynomials have the values that they say.
use Rattle.std.proofs.Common.{◌≡◌, ℕ, Bool, true, false, cond, ℤ, pos, ◌+ℤ◌, ◌*ℤ◌, ◌≤ℤ◌, [], ◌∷◌, Option, Some, None, refl, ap, sym, subst, ◌∙◌, arith}
use Rattle.std.proofs.Math.IntN.{zero-*ℤ, *ℤ-zero, +ℤ_idl, +ℤ_assoc}
use Rattle.std.proofs.lemmas.Int.{ints}
use Rattle.ap_value.specs.Values.{int_eq}
use Rattle.ap_value.proofs.Equals.{int_eq-true}
use Rattle.ap_term.specs.declared.term.Term.{Term}
use Rattle.ap_term.specs.Equal.{term_eq}
use Rattle.ap_term.specs.Order.{term_less}
use Rattle.ap_term.proofs.Equals.{term_eq-true}
use Rattle.ap_world.specs.Meaning.{Env, Defs}
use Rattle.ap_world.specs.Units.{is_narrow}
use Rattle.ap_poly.specs.Polynomials.{Parts, Polynomial, parts_value, value, and_then, narrow, with_part, after, put, add_parts, add, scale_parts, scale}
use Rattle.ap_poly.specs.Holding.{PolyHolds}
use Rattle.ap_poly.proofs.Integers.{swap4, times_over, over_times, times_assoc, natural_times, natural_sum}

pub some_is : {A : Type 0} {x y : A} → Some x ≡ Some y → y ≡ x
some_is h = cc

-- both steps had a value
pub both_gave : {A B : Type 0} (o : Option A) (f : A → Option B) (y : B) → and_then o f ≡ Some y → (x : A) × ((o ≡ Some x) × (f x ≡ Some y))
both_gave None f y h = absurd (no h)
  where
    no : None ≡ Some y → ⊥
    no k = cc
both_gave (Some x) f y h = (x, (refl, h))

pub narrow_is : (n c : ℤ) → narrow n ≡ Some c → c ≡ n
narrow_is n c h = go (is_narrow n) h
  where
    go : (b : Bool) → cond b (Some n) None ≡ Some c → c ≡ n
    go true k = cc
    go false k = cc

module _ (r : Term → ℤ) where
  pub with_part_value : (t : Term) (c : ℤ) (ps : Parts) → parts_value r (with_part t c ps) ≡ c *ℤ r t +ℤ parts_value r ps
  with_part_value t c ps = go (int_eq c (pos 0)) refl
    where
      go : (b : Bool) → int_eq c (pos 0) ≡ b → parts_value r (cond b ps ((t, c) ∷ ps)) ≡ c *ℤ r t +ℤ parts_value r ps
      go true e = sym (ap (λ z. z *ℤ r t +ℤ parts_value r ps) (int_eq-true c (pos 0) e) ∙ ap (λ z. z +ℤ parts_value r ps) (zero-*ℤ (r t)) ∙ +ℤ_idl (parts_value r ps))
      go false e = refl

  past : (a b c : ℤ) → a +ℤ (b +ℤ c) ≡ b +ℤ (a +ℤ c)
  past a b c = omega (arith, ints)

  abbrev Puts : Term → ℤ → Parts → Type 0
  Puts t k ps = (qs : Parts) → put t k ps ≡ Some qs → parts_value r qs ≡ k *ℤ r t +ℤ parts_value r ps

  pub put_value : (t : Term) (k : ℤ) (ps : Parts) → Puts t k ps
  put_value t k [] qs h = ap (parts_value r) (some_is h) ∙ with_part_value t k []
  put_value t k (p ∷ ps) qs h = go (put_value t k ps) (term_eq t p.0) refl (term_less t p.0) h
    where
      Goal : Type 0
      Goal = parts_value r qs ≡ k *ℤ r t +ℤ parts_value r (p ∷ ps)

      later : Puts t k ps → (o : Option Parts) → put t k ps ≡ o → after p o ≡ Some qs → Goal
      later next None e l = cc
      later next (Some us) e l = ap (parts_value r) (some_is l) ∙ ap (λ z. p.1 *ℤ r p.0 +ℤ z) (next us e) ∙ past (p.1 *ℤ r p.0) (k *ℤ r t) (parts_value r ps)

      met : t ≡ p.0 → (c : ℤ) × ((narrow (k +ℤ p.1) ≡ Some c) × (Some (with_part t c ps) ≡ Some qs)) → Goal
      met e (c, w) = ap (parts_value r) (some_is w.1) ∙ with_part_value t c ps
          ∙ ap (λ z. z *ℤ r t +ℤ parts_value r ps) (narrow_is (k +ℤ p.1) c w.0)
          ∙ ap (λ z. z +ℤ parts_value r ps) (times_over k p.1 (r t))
          ∙ +ℤ_assoc (k *ℤ r t) (p.1 *ℤ r t) (parts_value r ps)
          ∙ ap (λ z. k *ℤ r t +ℤ (p.1 *ℤ r z +ℤ parts_value r ps)) e

      go : Puts t k ps → (x : Bool) → term_eq t p.0 ≡ x → (y : Bool)
          → cond x (and_then (narrow (k +ℤ p.1)) (λ c. Some (with_part t c ps))) (cond y (Some (with_part t k (p ∷ ps))) (after p (put t k ps))) ≡ Some qs → Goal
      go next true e y l = met (term_eq-true t p.0 e) (both_gave (narrow (k +ℤ p.1)) (λ c. Some (with_part t c ps)) qs l)
      go next false e true l = ap (parts_value r) (some_is l) ∙ with_part_value t k (p ∷ ps)
      go next false e false l = later next (put t k ps) refl l

  pub add_parts_value : (ps qs ss : Parts) → add_parts ps qs ≡ Some ss → parts_value r ss ≡ parts_value r ps +ℤ parts_value r qs
  add_parts_value [] qs ss h = ap (parts_value r) (some_is h) ∙ sym (+ℤ_idl (parts_value r qs))
  add_parts_value (p ∷ ps) qs ss h = go (add_parts_value ps qs) (both_gave (add_parts ps qs) (put p.0 p.1) ss h)
    where
      go : ((us : Parts) → add_parts ps qs ≡ Some us → parts_value r us ≡ parts_value r ps +ℤ parts_value r qs)
          → (us : Parts) × ((add_parts ps qs ≡ Some us) × (put p.0 p.1 us ≡ Some ss)) → parts_value r ss ≡ parts_value r (p ∷ ps) +ℤ parts_value r qs
      go next (us, w) = put_value p.0 p.1 us ss w.1 ∙ ap (λ z. p.1 *ℤ r p.0 +ℤ z) (next us w.0) ∙ sym (+ℤ_assoc (p.1 *ℤ r p.0) (parts_value r ps) (parts_value r qs))

  pub add_value : (p q s : Polynomial) → add p q ≡ Some s → value r s ≡ value r p +ℤ value r q
  add_value p q s h = go (both_gave (narrow (p.constant +ℤ q.constant)) _ s h)
    where
      inner : (c : ℤ) → narrow (p.constant +ℤ q.constant) ≡ Some c → (ss : Parts) × ((add_parts p.parts q.parts ≡ Some ss) × (Some (record { constant = c; parts = ss }) ≡ Some s)) → value r s ≡ value r p +ℤ value r q
      inner c e (ss, w) = ap (value r) (some_is w.1) ∙ ap (λ z. z +ℤ parts_value r ss) (narrow_is (p.constant +ℤ q.constant) c e)
          ∙ ap (λ z. (p.constant +ℤ q.constant) +ℤ z) (add_parts_value p.parts q.parts ss w.0)
          ∙ swap4 p.constant q.constant (parts_value r p.parts) (parts_value r q.parts)

      go : (c : ℤ) × ((narrow (p.constant +ℤ q.constant) ≡ Some c) × (and_then (add_parts p.parts q.parts) (λ ps. Some (record { constant = c; parts = ps })) ≡ Some s)) → value r s ≡ value r p +ℤ value r q
      go (c, w) = inner c w.0 (both_gave (add_parts p.parts q.parts) (λ ps. Some (record { constant = c; parts = ps })) s w.1)

  pub scale_parts_value : (k : ℕ) (ps ss : Parts) → scale_parts k ps ≡ Some ss → parts_value r ss ≡ pos k *ℤ parts_value r ps
  scale_parts_value k [] ss h = ap (parts_value r) (some_is h) ∙ sym (*ℤ-zero (pos k))
  scale_parts_value k (p ∷ ps) ss h = go (scale_parts_value k ps) (both_gave (narrow (pos k *ℤ p.1)) _ ss h)
    where
      Next : Type 0
      Next = (us : Parts) → scale_parts k ps ≡ Some us → parts_value r us ≡ pos k *ℤ parts_value r ps

      inner : Next → (c : ℤ) → narrow (pos k *ℤ p.1) ≡ Some c → (us : Parts) × ((scale_parts k ps ≡ Some us) × (Some (with_part p.0 c us) ≡ Some ss)) → parts_value r ss ≡ pos k *ℤ parts_value r (p ∷ ps)
      inner next c e (us, w) = ap (parts_value r) (some_is w.1) ∙ with_part_value p.0 c us
          ∙ ap (λ z. z *ℤ r p.0 +ℤ parts_value r us) (narrow_is (pos k *ℤ p.1) c e)
          ∙ ap (λ z. z +ℤ parts_value r us) (times_assoc (pos k) p.1 (r p.0))
          ∙ ap (λ z. pos k *ℤ (p.1 *ℤ r p.0) +ℤ z) (next us w.0)
          ∙ sym (over_times (pos k) (p.1 *ℤ r p.0) (parts_value r ps))

      go : Next → (c : ℤ) × ((narrow (pos k *ℤ p.1) ≡ Some c) × (and_then (scale_parts k ps) (λ qs. Some (with_part p.0 c qs)) ≡ Some ss)) → parts_value r ss ≡ pos k *ℤ parts_value r (p ∷ ps)
      go next (c, w) = inner next c w.0 (both_gave (scale_parts k ps) (λ qs. Some (with_part p.0 c qs)) ss w.1)

  pub scale_value : (k : ℕ) (p s : Polynomial) → scale k p ≡ Some s → value r s ≡ pos k *ℤ value r p
  scale_value k p s h = go (both_gave (narrow (pos k *ℤ p.constant)) _ s h)
    where
      inner : (c : ℤ) → narrow (pos k *ℤ p.constant) ≡ Some c → (ss : Parts) × ((scale_parts k p.parts ≡ Some ss) × (Some (record { constant = c; parts = ss }) ≡ Some s)) → value r s ≡ pos k *ℤ value r p
      inner c e (ss, w) = ap (value r) (some_is w.1) ∙ ap (λ z. z +ℤ parts_value r ss) (narrow_is (pos k *ℤ p.constant) c e)
          ∙ ap (λ z. pos k *ℤ p.constant +ℤ z) (scale_parts_value k p.parts ss w.0)
          ∙ sym (over_times (pos k) p.constant (parts_value r p.parts))

      go : (c : ℤ) × ((narrow (pos k *ℤ p.constant) ≡ Some c) × (and_then (scale_parts k p.parts) (λ ps. Some (record { constant = c; parts = ps })) ≡ Some s)) → value r s ≡ pos k *ℤ value r p
      go (c, w) = inner c w.0 (both_gave (scale_parts k p.parts) (λ ps. Some (record { constant = c; parts = ps })) s w.1)

pub sums_hold : (D : Defs) (e : Env) (p q s : Polynomial) → add p q ≡ Some s → PolyHolds D e p → PolyHolds D e q → PolyHolds D e s
sums_hold D e p q s h hp hq = λ r reads. subst (λ z. pos 0 ≤ℤ z) (sym (add_value r p q s h)) (natural_sum (value r p) (value r q) (hp r reads) (hq r reads))

pub multiples_hold : (D : Defs) (e : Env) (k : ℕ) (p s : Polynomial) → scale k p ≡ Some s → PolyHolds D e p → PolyHolds D e s
multiples_hold D e k p s h hp = λ r reads. subst (λ z. pos 0 ≤ℤ z) (sym (scale_value r k p s h)) (natural_times k (value r p) (hp r reads))
