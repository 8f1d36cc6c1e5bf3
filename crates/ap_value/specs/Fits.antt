-- Integers of 128 bits, as each is that a program holds.
use Rattle.std.specs.Prelude.{ℕ, ◌^◌, Bool, true, ◌&&◌, nat_lt, List, ℤ, pos, negsuc}
use Rattle.ap_value.specs.declared.value.Value.{Value, fold-Value}
use Rattle.ap_value.specs.declared.value.Value.TheOpen.{Value-F}

-- the integer has 128 bits
abbrev pub fits : ℤ → Bool
fits (pos n) = nat_lt n (2 ^ 127)
fits (negsuc n) = nat_lt n (2 ^ 127)

abbrev pub fit_step : Value-F Bool → Bool
fit_step (Value-F.Int n) = fits n
fit_step (Value-F.Chr c) = true
fit_step (Value-F.Str s) = true
fit_step (Value-F.Sym s) = true
fit_step (Value-F.Cons a b) = a && b

-- every integer in a value has 128 bits
abbrev pub all_fit : Value → Bool
all_fit = fold-Value Bool fit_step
