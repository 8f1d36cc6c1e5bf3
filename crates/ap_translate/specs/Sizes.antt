-- What is kept of terms and constants: those of at most 4,096 nodes.
use Rattle.std.specs.Prelude.{◌≡◌, ℕ, ◌+◌, ◌≤◌, cond, nat_le, List, [], ◌∷◌, ◌++◌, map, Option, Some, None, Ok, Err}
use Rattle.ap_list.specs.Lists.{sum_of}
use Rattle.ap_value.specs.declared.value.Value.{Value}
use Rattle.ap_value.specs.Counts.{node_count}
use Rattle.ap_term.specs.declared.term.Term.{Term}
use Rattle.ap_term.specs.Terms.{term_size}
use Rattle.ap_translate.specs.declared.sizes.Row.{Row}
use Rattle.ap_translate.specs.declared.sizes.Values.{Values}
use Rattle.ap_translate.specs.Answers.{Answer}
use Rattle.ap_translate.specs.Quoted.{conses}

-- one by its size, several by the sum of their weights
abbrev pub small_by : {A : Type 0} → (A → ℕ) → A → Option A
small_by size a = cond (nat_le (size a) 4096) (Some a) None

abbrev pub total : {A : Type 0} → (A → ℕ) → List A → ℕ
total weight xs = sum_of (map weight xs)

abbrev pub few_by : {A : Type 0} → (A → ℕ) → List A → Option (List A)
few_by weight xs = cond (nat_le (total weight xs) 4096) (Some xs) None

-- with one more
abbrev pub more_by : {A : Type 0} → (A → ℕ) → Option (List A) → Option A → Option (List A)
more_by weight (Some xs) (Some x) = few_by weight (xs ++ x ∷ [])
more_by weight (Some xs) None = None
more_by weight None x = None

-- what is kept of an answer
abbrev pub capped : {A : Type 0} → (A → Option A) → Answer A → Answer (Option A)
capped cap (Ok a) = Ok (cap a)
capped cap (Err e) = Err e

-- of terms
abbrev pub small : Term → Option Term
small = small_by term_size

abbrev pub few : List Term → Option (List Term)
few = few_by term_size

-- of constants: in a list each counts one more
abbrev pub small_value : Value → Option Value
small_value = small_by node_count

abbrev pub weight : Value → ℕ
weight v = node_count v + 1

abbrev pub few_values : List Value → Option (List Value)
few_values = few_by weight

-- the program holds lists with their counts
abbrev pub row_terms : Option Row → Option (List Term)
row_terms None = None
row_terms (Some r) = Some r.terms

pub record IsCounted (r : Row) : Type 0 where
  pub is : r.nodes ≡ total term_size r.terms
  pub low : r.nodes ≤ 4096

abbrev pub list_values : Option Values → Option (List Value)
list_values None = None
list_values (Some r) = Some r.values

pub record AreCounted (r : Values) : Type 0 where
  pub is : r.nodes ≡ total weight r.values
  pub low : r.nodes ≤ 4096

-- a list of what is kept, with an end that is kept
abbrev pub list_small : Option (List Value) → Option Value → Option Value
list_small (Some vs) (Some end) = small_value (conses vs end)
list_small (Some vs) None = None
list_small None end = None
