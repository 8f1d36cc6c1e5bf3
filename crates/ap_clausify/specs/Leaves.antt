-- How many clauses without `if` a term and a clause are split into, counted without splitting them.
use Rattle.std.specs.Prelude.{ℕ, min, map}
use Rattle.ap_term.specs.declared.term.Clause.{Clause}
pub use Rattle.ap_term.specs.Leaves.{product, choice_leaves, leaves_step, leaves}

-- of a clause: each leaf of a literal comes with each leaf of the others
abbrev pub clause_leaves : Clause → ℕ
clause_leaves c = product (map leaves c.0)

-- a count as far as a limit
abbrev pub capped : ℕ → ℕ → ℕ
capped limit n = min n limit
