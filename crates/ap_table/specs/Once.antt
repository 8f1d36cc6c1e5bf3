-- How often the steps of a list claim a node, whoever takes them.
use Rattle.std.specs.Prelude.{ℕ, ◌+◌, nat_eq, cond, List, [], ◌∷◌}
use Rattle.ap_table.specs.Core.{Turn, claim, expand, finish, drop, mark, look}

-- how often a step claims node k
abbrev pub claims_of : ℕ → Turn → ℕ
claims_of k (claim j) = cond (nat_eq k j) 1 0
claims_of k (expand j) = 0
claims_of k (finish j) = 0
claims_of k (drop j l) = 0
claims_of k (mark f i) = 0
claims_of k (look f) = 0

-- and how often the steps of a list do
abbrev pub claims : ℕ → List Turn → ℕ
claims k [] = 0
claims k (e ∷ es) = claims_of k e + claims k es
