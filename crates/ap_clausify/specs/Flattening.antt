-- What the clause of a term says of the term.
use Rattle.std.specs.Prelude.{IsTrue, List, [], ◌∷◌}
use Rattle.ap_term.specs.declared.term.Term.{Term}
use Rattle.ap_term.specs.declared.term.Clause.{Clause}
use Rattle.ap_world.specs.declared.entry.Entry.{Entry}
use Rattle.ap_world.specs.Meaning.{Valid}
use Rattle.ap_world.specs.Sound.{known, Sound}
use Rattle.ap_world.specs.World.{function_of}
use Rattle.ap_kernel.specs.Standing.{DefinesNot}
use Rattle.ap_kernel.specs.Reductions.{KnownClause}

-- in each sound world that has `not` and the term: the clause is of terms of the world, and where it is valid
-- the term alone is
abbrev pub Clausifies : Term → Clause → Type 0
Clausifies u c = (W : List Entry) → Sound W → DefinesNot (function_of W) → IsTrue (known (function_of W) u)
    → KnownClause (function_of W) c × (Valid (function_of W) c.0 → Valid (function_of W) (u ∷ []))
