-- What digits are worth grows with each digit.
use Rattle.std.proofs.Common.{ℕ, ◌+◌, ◌*◌, ◌<◌, ◌≤◌, List, [], ◌∷◌, length, get_or, drop, arith}
use Rattle.std.proofs.lemmas.Nat.{mul-le}
use Rattle.ap_reader.specs.Numbers.{worth, value_after}
use Rattle.ap_reader.proofs.Steps.{value_more}

value_grows : (base n : ℕ) (t : List ℕ) → 1 ≤ base → n ≤ value_after base n t
value_grows base n [] h = omega arith
value_grows base n (c ∷ t) h =
    let rest : n * base + worth c ≤ value_after base (n * base + worth c) t = value_grows base (n * base + worth c) t h in
    let scaled : n * 1 ≤ n * base = mul-le n 1 n base (omega arith) h in
    omega (arith, rest, scaled)

-- what the whole is below, it is below up to the next digit
pub next_digit : (base n i m d : ℕ) (t : List ℕ) → 1 ≤ base → i < length t → value_after base n (drop i t) < m → n * base + worth (get_or t i d) < m
next_digit base n i m d t h inside below =
    let step = value_more base n t i d inside in
    let rest : n * base + worth (get_or t i d) ≤ value_after base (n * base + worth (get_or t i d)) (drop (i + 1) t) =
    value_grows base (n * base + worth (get_or t i d)) (drop (i + 1) t) h in
    omega (arith, step, rest)
