-- The order of terms, by which rules that permute are kept from looping and polynomials are sorted.
use Rattle.std.specs.Prelude.{ℕ, ◌+◌, Bool, true, false, ◌==◌, ◌&&◌, ◌||◌, nat_lt, List, [], ◌∷◌}
use Rattle.ap_list.specs.Lists.{sum_of}
use Rattle.ap_value.specs.Counts.{node_count}
use Rattle.ap_term.specs.Printed.{term_text}
use Rattle.ap_term.specs.declared.term.Term.{Term, fold-Term}
use Rattle.ap_term.specs.declared.term.Term.TheOpen.{Term-F}

abbrev pub variable_step : Term-F ℕ → ℕ
variable_step (Term-F.Var x) = 1
variable_step (Term-F.Quote v) = 0
variable_step (Term-F.Call f ns) = sum_of ns

-- how often a variable stands in a term
abbrev pub variables_in : Term → ℕ
variables_in = fold-Term ℕ variable_step

abbrev pub function_step : Term-F ℕ → ℕ
function_step (Term-F.Var x) = 0
function_step (Term-F.Quote v) = 0
function_step (Term-F.Call f ns) = sum_of ns + 1

-- how often a function symbol stands in a term
abbrev pub functions_in : Term → ℕ
functions_in = fold-Term ℕ function_step

abbrev pub constant_step : Term-F ℕ → ℕ
constant_step (Term-F.Var x) = 0
constant_step (Term-F.Quote v) = node_count v
constant_step (Term-F.Call f ns) = sum_of ns

-- the nodes in the constants of a term
abbrev pub constants_in : Term → ℕ
constants_in = fold-Term ℕ constant_step

-- the smaller number comes first; between equal ones the next test decides
abbrev pub number_first : ℕ → ℕ → Bool → Bool
number_first m n next = nat_lt m n || (m == n && next)

-- bytes as in a dictionary: a text comes before those that go on after it
abbrev pub bytes_less : List ℕ → List ℕ → Bool
bytes_less xs [] = false
bytes_less [] (y ∷ ys) = true
bytes_less (x ∷ xs) (y ∷ ys) = number_first x y (bytes_less xs ys)

-- the order compares, in turn: variable occurrences, function symbols, nodes in constants, printed bytes
unfoldable pub term_less : Term → Term → Bool
term_less a b =
    number_first (variables_in a) (variables_in b)
    (number_first (functions_in a) (functions_in b)
    (number_first (constants_in a) (constants_in b)
    (bytes_less (term_text a) (term_text b))))
