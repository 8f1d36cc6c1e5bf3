-- Numbers of 64 bits that equal terms have in common, by which different ones are mostly told apart in one step.
use Rattle.std.specs.Prelude.{ℕ, ◌+◌, ◌*◌, ◌-◌, ◌%◌, ◌^◌, List, [], ◌∷◌, length, slice_index, unsigned_abs}
use Rattle.ap_value.specs.declared.symbol.Symbol.{Symbol}
use Rattle.ap_value.specs.declared.value.Value.{Value, fold-Value}
use Rattle.ap_value.specs.declared.value.Value.TheOpen.{Value-F}
use Rattle.ap_term.specs.declared.term.Term.{Term, fold-Term}
use Rattle.ap_term.specs.declared.term.Term.TheOpen.{Term-F}

-- one number of two
unfoldable pub mixed : ℕ → ℕ → ℕ
mixed h n = ((h * 1000003) % 2 ^ 64 + n) % 2 ^ 64

-- and of a list
abbrev pub mixed_all : ℕ → List ℕ → ℕ
mixed_all h [] = h
mixed_all h (n ∷ ns) = mixed_all (mixed h n) ns

-- of a text by its length, its first two bytes and its last one
unfoldable pub text_hash : List ℕ → ℕ
text_hash cs = mixed (mixed (mixed (length cs) (slice_index cs 0)) (slice_index cs 1)) (slice_index cs (length cs - 1))

abbrev pub symbol_hash : Symbol → ℕ
symbol_hash s = text_hash s.name

-- of a value by its kind, and by what it is unless it is a cons
abbrev pub value_hash_step : Value-F ℕ → ℕ
value_hash_step (Value-F.Int n) = mixed 1 (unsigned_abs n % 2 ^ 64)
value_hash_step (Value-F.Chr c) = mixed 2 c
value_hash_step (Value-F.Str s) = mixed 3 (text_hash s)
value_hash_step (Value-F.Sym s) = mixed 4 (symbol_hash s)
value_hash_step (Value-F.Cons a b) = 5

abbrev pub value_hash : Value → ℕ
value_hash = fold-Value ℕ value_hash_step

abbrev pub hash_step : Term-F ℕ → ℕ
hash_step (Term-F.Var x) = mixed 6 (symbol_hash x)
hash_step (Term-F.Quote v) = mixed 7 (value_hash v)
hash_step (Term-F.Call f ns) = mixed (symbol_hash f) (mixed_all 8 ns)

-- of a term by that of its head and those of its arguments
abbrev pub term_hash : Term → ℕ
term_hash = fold-Term ℕ hash_step
