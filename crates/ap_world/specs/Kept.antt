-- What the type of a world's entries keeps of their tables.
use Rattle.std.specs.Prelude.{◌≡◌, ℕ, suc, true, cond, List, [], ◌∷◌, ◌++◌, map, Option, None, unwrap_or, Bool}
use Rattle.std.specs.Map.{lookup}
use Rattle.ap_value.specs.declared.symbol.Symbol.{Symbol}
use Rattle.ap_value.specs.Values.{symbol_eq}
use Rattle.ap_world.specs.declared.entry.Entry.{Entry}
use Rattle.ap_world.specs.declared.entry.Entry.TheVariants as entry
use Rattle.ap_world.specs.Prescribing.{prescribed, is_name}
use Rattle.ap_world.specs.World.{name_in, are_distinct}

-- the function that an entry is a type prescription about
abbrev pub prescribed_in : Entry → Option Symbol
prescribed_in (entry.Theorem u) = prescribed u
prescribed_in y = None

-- the places of the entries that are about f, counted from n
abbrev pub places_from : ℕ → Symbol → List Entry → List ℕ
places_from n f [] = []
places_from n f (y ∷ ys) = cond (is_name f (prescribed_in y)) (n ∷ places_from (suc n) f ys) (places_from (suc n) f ys)

-- a table of places by names
abbrev pub Places : Type 0
Places = List (Symbol × List ℕ)

-- the places that a table has for f
abbrev pub places_at : Places → Symbol → List ℕ
places_at table f = unwrap_or (lookup (symbol_eq f) table) []

-- with one place more, or with the same ones
abbrev pub with_place : Bool → ℕ → List ℕ → List ℕ
with_place b i ps = cond b (ps ++ i ∷ []) ps

-- the names of the entries are distinct, the table of names has just these, and the other one has the places of
-- the entries that are about each function
pub record Tabled (W : List Entry) (names : List Symbol) (table : Places) : Type 0 where
  pub distinct : are_distinct W ≡ true
  pub named : names ≡ map name_in W
  pub placed : (f : Symbol) → places_at table f ≡ places_from 0 f W
