-- What the entries and the theory of a book's world add to a world. See the manual's topic `include-book`.
use Rattle.std.specs.Prelude.{◌≡◌, Bool, false, cond, not, ◌||◌, List, [], ◌∷◌, ◌++◌, Option, Some, None, is_some}
use Rattle.ap_list.specs.Lists.{is_among}
use Rattle.ap_value.specs.declared.symbol.Symbol.{Symbol}
use Rattle.ap_world.specs.declared.entry.Entry.{Entry}
use Rattle.ap_world.specs.declared.theory.Rune.{Rune}
use Rattle.ap_world.specs.Alike.{SameButMask, alike_entry}
use Rattle.ap_world.specs.Theories.{rune_eq, ShownTheory}
use Rattle.ap_world.specs.World.{Shown, name_in, entry_of}

-- the entries whose names aren't in the world, in their order
abbrev pub missing : List Entry → List Entry → List Entry
missing W [] = []
missing W (y ∷ K) = cond (is_some (entry_of W (name_in y))) (missing W K) (y ∷ missing W K)

-- what stands under a name is another entry than this one, masks aside
abbrev pub is_other : Option Entry → Entry → Bool
is_other None y = false
is_other (Some z) y = not (alike_entry y z)

-- a name of the list has another entry in the world
abbrev pub has_clash : List Entry → List Entry → Bool
has_clash W [] = false
has_clash W (y ∷ K) = is_other (entry_of W (name_in y)) y || has_clash W K

-- the same of two lists: a name that is in both has one entry, masks aside
abbrev pub NoClash : List Entry → List Entry → Type 0
NoClash W K = (x : Symbol) (y z : Entry) → entry_of K x ≡ Some y → entry_of W x ≡ Some z → SameButMask y z

-- the runes of a list that aren't among those, in their order
abbrev pub besides : List Rune → List Rune → List Rune
besides rs [] = []
besides rs (s ∷ ss) = cond (is_among rune_eq s rs) (besides rs ss) (s ∷ besides rs ss)

-- a theory with what another disables besides, at its end
abbrev pub merged : ShownTheory → ShownTheory → ShownTheory
merged h k = record { disabled = h.disabled ++ besides h.disabled k.disabled }

-- a world with the entries of another that it lacks
abbrev pub with_missing : List Entry → List Entry → List Entry
with_missing W K = W ++ missing W K

abbrev pub included : Shown → Shown → Shown
included w k = record { entries = with_missing w.entries k.entries; theory = merged w.theory k.theory }
