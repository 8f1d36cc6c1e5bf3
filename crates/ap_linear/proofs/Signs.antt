-- Signs of coefficients, and of sums of shares.
use Rattle.std.proofs.Common.{◌≡◌, ℕ, zero, suc, ◌*◌, Bool, true, false, not, ℤ, pos, negsuc, ◌+ℤ◌, ◌*ℤ◌, neg_ℤ, ◌≤ℤ◌, ◌<ℤ◌, int_lt, refl, ap, sym, subst, ◌∙◌, arith}
use Rattle.std.proofs.Math.IntN.{*ℤ_comm}
use Rattle.std.proofs.lemmas.Int.{ints}
use Rattle.ap_poly.proofs.Integers.{one_times, negated}
use Rattle.ap_linear.specs.OneSign.{has_sign}

-- 1, or -1
abbrev pub unit : Bool → ℤ
unit true = pos 1
unit false = negsuc 0

pub times_one : (c : ℤ) → c *ℤ pos 1 ≡ c
times_one c = *ℤ_comm c (pos 1) ∙ one_times c

pub times_minus : (c : ℤ) → c *ℤ negsuc 0 ≡ neg_ℤ c
times_minus c = negated c (pos 1) ∙ ap neg_ℤ (times_one c)

natural_of : (c : ℤ) → int_lt c (pos 0) ≡ false → pos 0 ≤ℤ c
natural_of c h = omega (arith, ints, h)

positive_of : (c : ℤ) → int_lt (pos 0) c ≡ true → pos 1 ≤ℤ c
positive_of c h = omega (arith, ints, h)

natural_neg : (c : ℤ) → int_lt (pos 0) c ≡ false → pos 0 ≤ℤ neg_ℤ c
natural_neg c h = omega (arith, ints, h)

positive_neg : (c : ℤ) → int_lt c (pos 0) ≡ true → pos 1 ≤ℤ neg_ℤ c
positive_neg c h = omega (arith, ints, h)

pub along : (s : Bool) (c : ℤ) → has_sign s c ≡ true → pos 1 ≤ℤ (c *ℤ unit s)
along true c h = subst (λ z. pos 1 ≤ℤ z) (sym (times_one c)) (positive_of c h)
along false c h = subst (λ z. pos 1 ≤ℤ z) (sym (times_minus c)) (positive_neg c h)

pub not_against : (s : Bool) (c : ℤ) → has_sign (not s) c ≡ false → pos 0 ≤ℤ (c *ℤ unit s)
not_against true c h = subst (λ z. pos 0 ≤ℤ z) (sym (times_one c)) (natural_of c h)
not_against false c h = subst (λ z. pos 0 ≤ℤ z) (sym (times_minus c)) (natural_neg c h)

pub natural_constant : (c : ℤ) → not (int_lt c (pos 0)) ≡ true → pos 0 ≤ℤ c
natural_constant c h = go (int_lt c (pos 0)) refl h
  where
    go : (b : Bool) → int_lt c (pos 0) ≡ b → not b ≡ true → pos 0 ≤ℤ c
    go true e k = cc
    go false e k = natural_of c e

pub none_below : (n : ℤ) → n <ℤ pos 0 → pos 0 ≤ℤ n → ⊥
none_below n h k = omega (arith, ints)

pub both_nothing : (a b : ℤ) → pos 0 ≤ℤ a → pos 0 ≤ℤ b → a +ℤ b ≡ pos 0 → (a ≡ pos 0) × (b ≡ pos 0)
both_nothing a b h k e = (omega (arith, ints), omega (arith, ints))

pub at_least : (a b : ℤ) → pos 1 ≤ℤ a → pos 0 ≤ℤ b → pos 1 ≤ℤ (a +ℤ b)
at_least a b h k = omega (arith, ints)

pub at_least_right : (a b : ℤ) → pos 0 ≤ℤ a → pos 1 ≤ℤ b → pos 1 ≤ℤ (a +ℤ b)
at_least_right a b h k = omega (arith, ints)

pub no_more : (a b c : ℤ) → a +ℤ b ≡ c → a ≡ c → b ≡ pos 0
no_more a b c h k = omega (arith, ints)

pub weaker : (a : ℤ) → pos 1 ≤ℤ a → pos 0 ≤ℤ a
weaker a h = omega (arith, ints)

pub zero_natural : pos 0 ≤ℤ pos 0
zero_natural = omega (arith, ints)

-- a multiple of what is at least 1 is nothing only where the multiplier is 0
pub unused : (k : ℕ) (v : ℤ) → pos 1 ≤ℤ v → pos k *ℤ v ≡ pos 0 → k ≡ 0
unused zero v h e = refl
unused (suc k) (pos zero) h e = absurd (no h)
  where
    no : pos 1 ≤ℤ pos 0 → ⊥
    no h = omega (arith, ints)
unused (suc k) (pos (suc n)) h e = absurd (no (natural_is e))
  where
    natural_is : pos (suc k * suc n) ≡ pos 0 → suc k * suc n ≡ 0
    natural_is e = cc

    no : suc k * suc n ≡ 0 → ⊥
    no e = grind arith
unused (suc k) (negsuc n) h e = absurd (no h)
  where
    no : pos 1 ≤ℤ negsuc n → ⊥
    no h = omega (arith, ints)
