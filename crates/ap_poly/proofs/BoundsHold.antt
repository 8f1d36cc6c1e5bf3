-- What a mask says of an atom holds.
use Rattle.std.proofs.Common.{◌≡◌, ◌⊎◌, inl, inr, ℕ, zero, suc, Bool, true, false, cond, bit_and, ℤ, pos, negsuc, ◌+ℤ◌, ◌≤ℤ◌, neg_ℤ, [], refl, ap, sym, subst, ◌∙◌, eqb-true, arith}
use Rattle.std.proofs.lemmas.Int.{ints}
use Rattle.std.specs.Int.{bit_at}
use Rattle.ap_list.specs.Lists.{Each}
use Rattle.ap_value.specs.Values.{V, int, chr, str, sym as symbol, cons, value_eq}
use Rattle.ap_term.specs.declared.term.Term.{Term}
use Rattle.ap_world.specs.Primitives.{nil, t, int_of}
use Rattle.ap_world.specs.Types.{is_true_list, type_of, Has}
use Rattle.ap_world.specs.Meaning.{Env, Defs, HasValue}
use Rattle.ap_world.proofs.Sets.{apart}
use Rattle.ap_poly.specs.Bounds.{lacks, one_part, bound}
use Rattle.ap_poly.specs.Holding.{PolyHolds}
use Rattle.ap_poly.proofs.Integers.{one_times, times_negated}

-- a value is positive, or negative, or counts as 0 and is of another type
record Positive (v : V) : Type 0 where
  kind : type_of v ≡ 1
  least : pos 1 ≤ℤ int_of v

record Negative (v : V) : Type 0 where
  kind : type_of v ≡ 2
  most : int_of v ≤ℤ negsuc 0

record Neither (v : V) : Type 0 where
  no_positive : bit_at 1021 (type_of v) ≡ 1
  no_negative : bit_at 1019 (type_of v) ≡ 1
  none : int_of v ≡ pos 0

above : (n : ℕ) → pos 1 ≤ℤ pos (suc n)
above n = omega (arith, ints)

below : (n : ℕ) → negsuc n ≤ℤ negsuc 0
below n = omega (arith, ints)

class : (v : V) → Positive v ⊎ (Negative v ⊎ Neither v)
class (int (pos zero)) = inr (inr (record { no_positive = refl; no_negative = refl; none = refl }))
class (int (pos (suc n))) = inl (record { kind = refl; least = above n })
class (int (negsuc n)) = inr (inl (record { kind = refl; most = below n }))
class (chr c) = inr (inr (record { no_positive = refl; no_negative = refl; none = refl }))
class (str s) = inr (inr (record { no_positive = refl; no_negative = refl; none = refl }))
class (cons a b) = inr (inr (record { no_positive = first (is_true_list b); no_negative = second (is_true_list b); none = refl }))
  where
    first : (x : Bool) → bit_at 1021 (cond x 6 7) ≡ 1
    first true = refl
    first false = refl

    second : (x : Bool) → bit_at 1019 (cond x 6 7) ≡ 1
    second true = refl
    second false = refl
class (symbol j s) = inr (inr (record { no_positive = first (value_eq (symbol j s) nil) (value_eq (symbol j s) t); no_negative = second (value_eq (symbol j s) nil) (value_eq (symbol j s) t); none = refl }))
  where
    first : (x y : Bool) → bit_at 1021 (cond x 3 (cond y 4 5)) ≡ 1
    first true y = refl
    first false true = refl
    first false false = refl

    second : (x y : Bool) → bit_at 1019 (cond x 3 (cond y 4 5)) ≡ 1
    second true y = refl
    second false true = refl
    second false false = refl

module _ (D : Defs) (x : Term) (m : ℕ) (e : Env) (v : V) (hv : HasValue D x e v) (has : Has (record { 0 = m }) v) where
  -- a type that the mask lacks
  no_type : {P : Type 0} (types k : ℕ) → lacks m types ≡ true → type_of v ≡ k → bit_at types k ≡ 1 → P
  no_type types k h q b = absurd (apart m types k (eqb-true (bit_and m types) 0 h) (subst (λ i. bit_at m i ≡ 1) q has) b)

  no_bit : {P : Type 0} (types : ℕ) → lacks m types ≡ true → bit_at types (type_of v) ≡ 1 → P
  no_bit types h b = absurd (apart m types (type_of v) (eqb-true (bit_and m types) 0 h) has b)

  abbrev Bounded : Type 0
  Bounded = Each (PolyHolds D e) (bound x m)

  plainly : (n : ℤ) → pos 0 ≤ℤ (n +ℤ (int_of v +ℤ pos 0)) → Each (PolyHolds D e) (one_part n x (pos 1))
  plainly n h = ((λ r reads. subst (λ z. pos 0 ≤ℤ (n +ℤ (z +ℤ pos 0))) (sym (one_times (r x) ∙ reads x v hv)) h), tt)

  turned : (n : ℤ) → pos 0 ≤ℤ (n +ℤ (neg_ℤ (int_of v) +ℤ pos 0)) → Each (PolyHolds D e) (one_part n x (negsuc 0))
  turned n h = ((λ r reads. subst (λ z. pos 0 ≤ℤ (n +ℤ (z +ℤ pos 0))) (sym (times_negated (pos 1) (r x) ∙ ap neg_ℤ (one_times (r x) ∙ reads x v hv))) h), tt)

  at_least : (n : ℤ) → pos 1 ≤ℤ n → (pos 0 ≤ℤ (negsuc 0 +ℤ (n +ℤ pos 0))) × (pos 0 ≤ℤ (pos 0 +ℤ (n +ℤ pos 0)))
  at_least n h = (omega (arith, ints), omega (arith, ints))

  at_most : (n : ℤ) → n ≤ℤ negsuc 0 → (pos 0 ≤ℤ (negsuc 0 +ℤ (neg_ℤ n +ℤ pos 0))) × (pos 0 ≤ℤ (pos 0 +ℤ (neg_ℤ n +ℤ pos 0)))
  at_most n h = (omega (arith, ints), omega (arith, ints))

  at_none : (n : ℤ) → n ≡ pos 0 → (pos 0 ≤ℤ (pos 0 +ℤ (n +ℤ pos 0))) × (pos 0 ≤ℤ (pos 0 +ℤ (neg_ℤ n +ℤ pos 0)))
  at_none n h = (omega (arith, ints), omega (arith, ints))

  holds_bound : Positive v ⊎ (Negative v ⊎ Neither v) → Bounded
  holds_bound c = go (lacks m 1021) refl (lacks m 4) refl (lacks m 1019) refl (lacks m 2) refl c
    where
      go : (a : Bool) → lacks m 1021 ≡ a → (b : Bool) → lacks m 4 ≡ b → (n : Bool) → lacks m 1019 ≡ n → (d : Bool) → lacks m 2 ≡ d
          → Positive v ⊎ (Negative v ⊎ Neither v)
          → Each (PolyHolds D e) (cond a (one_part (negsuc 0) x (pos 1)) (cond b (one_part (pos 0) x (pos 1)) (cond n (one_part (negsuc 0) x (negsuc 0)) (cond d (one_part (pos 0) x (negsuc 0)) []))))
      go true i b j n k d l (inl p) = plainly (negsuc 0) (at_least (int_of v) p.least).0
      go true i b j n k d l (inr (inl p)) = no_type 1021 2 i p.kind refl
      go true i b j n k d l (inr (inr p)) = no_bit 1021 i p.no_positive
      go false i true j n k d l (inl p) = plainly (pos 0) (at_least (int_of v) p.least).1
      go false i true j n k d l (inr (inl p)) = no_type 4 2 j p.kind refl
      go false i true j n k d l (inr (inr p)) = plainly (pos 0) (at_none (int_of v) p.none).0
      go false i false j true k d l (inl p) = no_type 1019 1 k p.kind refl
      go false i false j true k d l (inr (inl p)) = turned (negsuc 0) (at_most (int_of v) p.most).0
      go false i false j true k d l (inr (inr p)) = no_bit 1019 k p.no_negative
      go false i false j false k true l (inl p) = no_type 2 1 l p.kind refl
      go false i false j false k true l (inr (inl p)) = turned (pos 0) (at_most (int_of v) p.most).1
      go false i false j false k true l (inr (inr p)) = turned (pos 0) (at_none (int_of v) p.none).1
      go false i false j false k false l c = tt

pub bounds_hold : (D : Defs) (x : Term) (m : ℕ) (e : Env) (v : V) → HasValue D x e v → Has (record { 0 = m }) v → Each (PolyHolds D e) (bound x m)
bounds_hold D x m e v hv has = holds_bound D x m e v hv has (class v)
