-- What calls answer that do events one after another.
use Rattle.std.specs.Prelude.{◌≡◌, ℕ, ◌+◌, true, false, cond, List, [], ◌∷◌, ◌++◌, Option, Some, None, take, codes}
use Rattle.ap_table.specs.declared.link.DropNote.{DropNote}
use Rattle.ap_world.specs.declared.entry.Entry.{Entry}
use Rattle.ap_world.specs.World.{Shown}
use Rattle.ap_plain.specs.declared.changes.Before.{Before}
use Rattle.ap_plain.specs.declared.end.Outcome.{Outcome}
use Rattle.ap_plain.specs.Drops.{DividedWalks}
use Rattle.ap_plain.specs.Ends.{Done, goals_in, walks_in}
use Rattle.ap_stated.specs.Texts.{line}

-- no event is done; one more is; and nothing is printed where an outcome is an admission
abbrev pub no_outcome : Outcome
no_outcome = record { text = []; admitted = true; goals = 0; drops = [] }

abbrev pub with_outcome : Outcome → Outcome → Outcome
with_outcome o e = record { text = o.text ++ e.text; admitted = e.admitted; goals = o.goals + e.goals; drops = o.drops ++ e.drops }

abbrev pub silenced : Outcome → Outcome
silenced o = cond o.admitted (record o { text = [] }) o

-- a second pass's text ends the first pass, if it has one: it is that of a refusal
abbrev pub ended_by : Outcome → Option (List ℕ) → Outcome
ended_by o None = o
ended_by o (Some text) = record { text = o.text ++ text; admitted = false; goals = o.goals; drops = o.drops }

-- the first entries of a world, and a theory: what it goes back to
abbrev pub back_in : Before → Shown → Shown
back_in b w = record { entries = take b.count w.entries; theory = b.theory }

-- a world has the entries of another first, and perhaps more
abbrev pub Begins : Shown → Shown → Type 0
Begins w v = (es : List Entry) × (v.entries ≡ w.entries ++ es)

-- Calls that did events answered this, and left the world v: where all are admitted it is the next one.
pub record Ran (d : Done) (v : Shown) (o : Outcome) : Type 0 where
  pub text : o.text ≡ d.text
  pub next : d.next ≡ cond o.admitted (Some v) None
  pub goals : o.goals ≡ goals_in d.told
  pub drops : DividedWalks o.drops (walks_in d.told)

-- A second pass from the world u answered this, and left the world v: nothing where it is admitted, and else its text.
abbrev pub RanAgain : Done → Shown → Shown → Option (List ℕ) → Type 0
RanAgain e u v None = e.next ≡ Some v
RanAgain e u v (Some text) = (e.next ≡ None) × (text ≡ line (codes "Second pass") ++ e.text) × (v ≡ u)
