-- How many clauses without `if` a term is split into, counted without splitting it, and whether it has an `if`.
use Rattle.std.specs.Prelude.{ℕ, ◌+◌, ◌*◌, Bool, true, false, ◌||◌, List, [], ◌∷◌, Option, Some, None, is_some}
use Rattle.ap_value.specs.Values.{symbol_eq}
use Rattle.ap_term.specs.declared.term.Term.{Term, fold-Term}
use Rattle.ap_term.specs.declared.term.Term.TheOpen.{Term-F}
use Rattle.ap_term.specs.Names.{if_name}

-- the three parts where the call is one of `if`
abbrev pub if_parts : {A : Type 0} → Bool → List A → Option (A × A × A)
if_parts true (a ∷ b ∷ c ∷ []) = Some (a, b, c)
if_parts b xs = None

-- the product, taken from the right
abbrev pub product : List ℕ → ℕ
product [] = 1
product (n ∷ ns) = n * product ns

-- each leaf of an `if`'s test comes with each leaf of a branch
abbrev pub choice_leaves : Option (ℕ × ℕ × ℕ) → ℕ → ℕ
choice_leaves None n = n
choice_leaves (Some (a, b, c)) n = a * (b + c)

abbrev pub leaves_step : Term-F ℕ → ℕ
leaves_step (Term-F.Var x) = 1
leaves_step (Term-F.Quote v) = 1
leaves_step (Term-F.Call f ns) = choice_leaves (if_parts (symbol_eq f if_name) ns) (product ns)

-- of a term
abbrev pub leaves : Term → ℕ
leaves = fold-Term ℕ leaves_step

-- some test is true
abbrev pub any_true : List Bool → Bool
any_true [] = false
any_true (b ∷ bs) = b || any_true bs

-- whether a term has an `if`
abbrev pub has_if_step : Term-F Bool → Bool
has_if_step (Term-F.Var x) = false
has_if_step (Term-F.Quote v) = false
has_if_step (Term-F.Call f bs) = is_some (if_parts (symbol_eq f if_name) bs) || any_true bs

abbrev pub has_if : Term → Bool
has_if = fold-Term Bool has_if_step
