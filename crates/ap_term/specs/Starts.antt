-- With which byte a value or a term opens, and what ends a list.
use Rattle.std.specs.Prelude.{ℕ, ◌≡◌, ℤ, pos, Bool, true, false, List, [], ◌∷◌, ◌++◌, Option, Some, None}
use Rattle.ap_value.specs.declared.value.Value.{Value, fold-Value}
use Rattle.ap_value.specs.declared.value.Value.TheOpen.{Value-F}
use Rattle.ap_term.specs.declared.term.Term.{Term, fold-Term}
use Rattle.ap_term.specs.declared.term.Term.TheOpen.{Term-F}

abbrev pub value_open_step : Value-F (Option ℕ) → Option ℕ
value_open_step (Value-F.Int n) = None
value_open_step (Value-F.Chr c) = None
value_open_step (Value-F.Str s) = None
value_open_step (Value-F.Sym s) = None
value_open_step (Value-F.Cons a b) = Some 40

-- a cons opens with a parenthesis
abbrev pub value_opens : Value → Option ℕ
value_opens = fold-Value (Option ℕ) value_open_step

abbrev pub term_open_step : Term-F (Option ℕ) → Option ℕ
term_open_step (Term-F.Var x) = None
term_open_step (Term-F.Quote v) = Some 39
term_open_step (Term-F.Call f ts) = Some 40

-- a constant opens with a quote mark, a call with a parenthesis
abbrev pub term_opens : Term → Option ℕ
term_opens = fold-Term (Option ℕ) term_open_step

abbrev pub integer_step : Value-F ℤ → ℤ
integer_step (Value-F.Int n) = n
integer_step (Value-F.Chr c) = pos 0
integer_step (Value-F.Str s) = pos 0
integer_step (Value-F.Sym s) = pos 0
integer_step (Value-F.Cons a b) = pos 0

-- an integer, and 0 for another value
abbrev pub integer_of : Value → ℤ
integer_of = fold-Value ℤ integer_step

-- how a rest of a list that is no cons is written: it closes the list, or stands after a dot
abbrev pub IsTail : Bool → List ℕ → List ℕ → Type 0
IsTail true rest text = rest ≡ 41 ∷ []
IsTail false rest text = rest ≡ 32 ∷ 46 ∷ 32 ∷ (text ++ 41 ∷ [])

-- texts, each after a space, and the parenthesis that closes them
abbrev pub arguments_text : List (List ℕ) → List ℕ
arguments_text [] = 41 ∷ []
arguments_text (t ∷ ts) = 32 ∷ (t ++ arguments_text ts)
