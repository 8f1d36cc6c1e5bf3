-- New names for variables: a stem and a number.
use Rattle.std.specs.Prelude.{ℕ, zero, suc, ◌+◌, false, cond, List, [], ◌++◌, map, length, Option, Some, None, decimal}
use Rattle.ap_list.specs.Lists.{in_turn}
use Rattle.ap_value.specs.declared.symbol.Symbol.{Symbol}
use Rattle.ap_term.specs.declared.term.Term.{Term}
use Rattle.ap_term.specs.Terms.{vars_after}
use Rattle.ap_kernel.specs.Solving.{occurs_in}

-- the variables of a clause, in order of first occurrence
abbrev pub vars_of : List Term → List Symbol
vars_of ts = in_turn (map vars_after ts) []

-- a stem and a number
abbrev pub numbered : List ℕ → ℕ → Symbol
numbered stem k = record { keyword = false; name = stem ++ decimal k }

-- the stem with the least number, from k on, that makes it new, among n numbers
abbrev pub first_new : List ℕ → List Term → ℕ → ℕ → Option Symbol
first_new stem ts zero k = None
first_new stem ts (suc n) k = cond (occurs_in (numbered stem k) ts) (first_new stem ts n (k + 1)) (Some (numbered stem k))

-- the least number from 1: among one more than there are variables, one makes a new name
abbrev pub new_name : List ℕ → List Term → Option Symbol
new_name stem ts = first_new stem ts (suc (length (vars_of ts))) 1
