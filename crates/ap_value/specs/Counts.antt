-- The two counts of a value.
use Rattle.std.specs.Prelude.{ℕ, ◌+◌, nat_abs, length}
use Rattle.ap_value.specs.declared.value.Value.{Value, fold-Value}
use Rattle.ap_value.specs.declared.value.Value.TheOpen.{Value-F}

-- 1 for an integer, a character, a symbol; 1 and the length for a string; 1 and both parts for a cons
abbrev pub node_step : Value-F ℕ → ℕ
node_step (Value-F.Int n) = 1
node_step (Value-F.Chr c) = 1
node_step (Value-F.Str s) = length s + 1
node_step (Value-F.Sym s) = 1
node_step (Value-F.Cons a b) = a + b + 1

abbrev pub node_count : Value → ℕ
node_count = fold-Value ℕ node_step

-- ACL2's count, by which recursions are shown to end
abbrev pub count_step : Value-F ℕ → ℕ
count_step (Value-F.Int n) = nat_abs n
count_step (Value-F.Chr c) = 0
count_step (Value-F.Str s) = length s
count_step (Value-F.Sym s) = 0
count_step (Value-F.Cons a b) = a + b + 1

abbrev pub acl2_count_of : Value → ℕ
acl2_count_of = fold-Value ℕ count_step
