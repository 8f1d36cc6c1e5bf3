-- Numbers in words.
use Rattle.std.proofs.Common.{◌≡◌, ◌≤◌, ◌<◌, ◌+◌, ◌*◌, ◌-◌, ℕ, Bool, true, false, cond, nat_le, List, [], ◌∷◌, Some, None, refl, arith}
use Rattle.std.proofs.lemmas.Bool.{leb-true}
use Rattle.ap_session.specs.Command.{read_on}

-- digits that are read on make a number no less
pub grows : (n : ℕ) (bs : List ℕ) → n ≤ read_on n bs
grows n [] = omega arith
grows n (b ∷ bs) = let more = grows (10 * n + (b - 48)) bs in omega arith

-- a number that is past the most is so with the digits that are left
pub past : (most n : ℕ) (bs : List ℕ) → most < n → cond (nat_le (read_on n bs) most) (Some (read_on n bs)) None ≡ None
past most n bs more = go (nat_le (read_on n bs) most) refl
  where
    grown : n ≤ read_on n bs
    grown = grows n bs

    no : nat_le (read_on n bs) most ≡ true → ⊥
    no q = let few : read_on n bs ≤ most = leb-true (read_on n bs) most q in let many : n ≤ read_on n bs = grown in omega (arith, few, many, more)

    go : (t : Bool) → nat_le (read_on n bs) most ≡ t → cond t (Some (read_on n bs)) None ≡ None
    go false q = refl
    go true q = absurd (no q)
