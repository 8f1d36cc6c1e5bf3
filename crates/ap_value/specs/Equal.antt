-- Equality of the values that a program holds, as a test that computes.
use Rattle.std.specs.Prelude.{Bool, false, ◌&&◌, nat_eq}
use Rattle.ap_value.specs.Values.{int_eq, bytes_eq, symbol_eq}
use Rattle.ap_value.specs.declared.value.Value.{Value, fold-Value, out-Value}
use Rattle.ap_value.specs.declared.value.Value.TheOpen.{Value-F}

-- one level of a value against one of another, the tests of its parts taken as given
abbrev pub constant_step : Value-F (Value → Bool) → Value-F Value → Bool
constant_step (Value-F.Int m) (Value-F.Int n) = int_eq m n
constant_step (Value-F.Chr c) (Value-F.Chr d) = nat_eq c d
constant_step (Value-F.Str s) (Value-F.Str t) = bytes_eq s t
constant_step (Value-F.Sym s) (Value-F.Sym t) = symbol_eq s t
constant_step (Value-F.Cons p q) (Value-F.Cons a b) = p a && q b
constant_step _ _ = false

-- two values that a program holds are one
unfoldable pub constant_eq : Value → Value → Bool
constant_eq = fold-Value (Value → Bool) (λ y v. constant_step y (out-Value v))
