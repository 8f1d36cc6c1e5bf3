-- Euclid's steps give the greatest common divisor, and by it two coefficients meet.
use Rattle.std.proofs.Common.{◌≡◌, ℕ, zero, suc, ◌*◌, ◌/◌, ◌%◌, ◌<◌, ◌≤◌, true, ℤ, pos, negsuc, neg_ℤ, ◌+ℤ◌, ◌*ℤ◌, int_lt, unsigned_abs, refl, ap, sym, ◌∙◌, true≢false, ltb-true, arith}
use Rattle.std.specs.Int.{IsGcd, ◌∣◌}
use Rattle.std.proofs.Math.IntN.{+ℤ_invr}
use Rattle.std.proofs.Math.Nat.{div-mul_cancel, mul_assoc, mul_comm}
use Rattle.std.proofs.lemmas.Nat.Gcd.{IsGcd-from_zero, IsGcd-from_mod}
use Rattle.ap_poly.specs.Elimination.{gcd_by, gcd}

steps_give : (n a b : ℕ) → b ≤ n → IsGcd a b (gcd_by n a b)
steps_give zero a b h = IsGcd-from_zero a b (omega arith)
steps_give (suc n) a zero h = IsGcd-from_zero a zero refl
steps_give (suc n) a (suc b) h = IsGcd-from_mod a (suc b) (gcd_by n (suc b) (a % suc b)) (steps_give n (suc b) (a % suc b) (omega arith))

pub gcd_is : (a b : ℕ) → IsGcd a b (gcd a b)
gcd_is a b = steps_give b a b (omega arith)

swapped : (u v g : ℕ) → u * (v * g) ≡ v * (u * g)
swapped u v g = sym (mul_assoc u v g) ∙ ap (λ (k : ℕ). k * g) (mul_comm u v) ∙ mul_assoc v u g

meet : (a b g : ℕ) → g ∣ a → g ∣ b → (b / g) * a ≡ (a / g) * b
meet a b g h k = ap (λ (m : ℕ). (b / g) * m) (sym (div-mul_cancel g h)) ∙ swapped (b / g) (a / g) g ∙ ap (λ (m : ℕ). (a / g) * m) (div-mul_cancel g k)

-- a positive and a negative coefficient, so often that they vanish
pub vanish : (c d : ℤ) → int_lt (pos 0) c ≡ true → int_lt d (pos 0) ≡ true
    → pos (unsigned_abs d / gcd (unsigned_abs c) (unsigned_abs d)) *ℤ c +ℤ pos (unsigned_abs c / gcd (unsigned_abs c) (unsigned_abs d)) *ℤ d ≡ pos 0
vanish (pos m) (negsuc n) h k =
    let g = gcd_is m (suc n) in
    ap (λ (x : ℕ). pos x +ℤ neg_ℤ (pos ((m / gcd m (suc n)) * suc n))) (meet m (suc n) (gcd m (suc n)) g.0 g.1) ∙ +ℤ_invr (pos ((m / gcd m (suc n)) * suc n))
vanish (pos m) (pos n) h k = absurd (no n (ltb-true n 0 k))
  where
    no : (n : ℕ) → n < 0 → ⊥
    no n h = omega arith
vanish (negsuc m) d h k = absurd (true≢false (sym h))
