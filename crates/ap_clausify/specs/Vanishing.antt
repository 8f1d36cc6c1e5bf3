-- A clause that is split wholly into clauses that hold by themselves.
use Rattle.std.specs.Prelude.{IsTrue, cond, List, [], ◌∷◌}
use Rattle.ap_term.specs.declared.term.Term.{Term}
use Rattle.ap_term.specs.declared.term.Clause.{Clause}
use Rattle.ap_kernel.specs.Tidying.{tidied, holds_by_itself}
use Rattle.ap_clausify.specs.Places.{has_if}

-- the literals that have no `if`
abbrev pub without_if : List Term → List Term
without_if [] = []
without_if (u ∷ us) = cond (has_if u) (without_if us) (u ∷ without_if us)

-- they hold by themselves, whatever comes of the others
abbrev pub Vanishes : Clause → Type 0
Vanishes c = IsTrue (holds_by_itself (tidied (without_if c.0)))
