-- When the choices of an induction pass its limit.
use Rattle.std.proofs.Common.{◌≡◌, ℕ, zero, suc, ◌*◌, ◌^◌, ◌<◌, ◌≤◌, ap, arith}
use Rattle.std.proofs.Math.Nat.{pow-suc, one-le-pow}

-- a product is no less than a factor, where the other is at least one
least : (a b : ℕ) → 1 ≤ a → b ≤ a * b
least zero b h = absurd (omega arith)
least (suc k) b h = omega arith

-- with one choice left that alone passes it
pub past_alone : (count b left calls : ℕ) → 0 < left → count * b ^ left ≡ b ^ calls → 1024 < b → 1024 < b ^ calls
past_alone count b zero calls some e h = absurd (omega arith)
past_alone zero b (suc n) calls some e h = let k : 1 ≤ b ^ calls = one-le-pow calls b (omega arith) in absurd (omega arith)
past_alone (suc m) b (suc n) calls some e h =
    let k : 1 ≤ b ^ n = one-le-pow n b (omega arith) in
    let p : b ≤ b ^ n * b = least (b ^ n) b k in
    let q : b ^ suc n ≤ suc m * b ^ suc n = least (suc m) (b ^ suc n) (omega arith) in
    let s : b ^ suc n ≡ b ^ n * b = pow-suc b n in
    omega arith

-- or with what was counted
pub past_counted : (count b left calls : ℕ) → 0 < left → count * b ^ left ≡ b ^ calls → 1024 < count * b → 1024 < b ^ calls
past_counted count b zero calls some e h = absurd (omega arith)
past_counted count zero (suc n) calls some e h = absurd (omega arith)
past_counted count (suc c) (suc n) calls some e h =
    let k : 1 ≤ suc c ^ n = one-le-pow n (suc c) (omega arith) in
    let p : count * suc c ≤ suc c ^ n * (count * suc c) = least (suc c ^ n) (count * suc c) k in
    let s : count * suc c ^ suc n ≡ count * (suc c ^ n * suc c) = ap (λ z. count * z) (pow-suc (suc c) n) in
    omega arith
