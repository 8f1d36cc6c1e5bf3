-- Counts as far as a number of the program holds them.
use Rattle.std.specs.Prelude.{ℕ, min}

-- a count, or the greatest number of 32 bits where that is less
abbrev pub capped : ℕ → ℕ
capped n = min n 4294967295
