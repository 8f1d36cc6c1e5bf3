-- The room of a text that holds its own bytes.
use Rattle.std.specs.Prelude.{List, ℕ, ◌≡◌, ◌≤◌, ◌+◌, ◌-◌, [], ◌∷◌, drop, replicate, slice_index}
use Rattle.std.specs.Int.{from_le_bytes, w64}

-- so many bytes at its front, and zeros behind them
abbrev pub IsRoom : List ℕ → ℕ → Type 0
IsRoom bytes n = (n ≤ 15) × (drop n bytes ≡ replicate (15 - n) 0)

-- eight bytes from a place on, the lowest first
abbrev pub word : List ℕ → ℕ → ℕ
word bytes i =
    from_le_bytes w64
    (slice_index bytes i ∷ slice_index bytes (i + 1) ∷ slice_index bytes (i + 2) ∷ slice_index bytes (i + 3) ∷
    slice_index bytes (i + 4) ∷ slice_index bytes (i + 5) ∷ slice_index bytes (i + 6) ∷ slice_index bytes (i + 7) ∷ [])
