-- The map from names to bytes that a library is.
use Rattle.std.specs.Prelude.{◌≡◌, ◌≢◌, ℕ, ◌+◌, List, [], ◌∷◌, Option, Some, None, option_map, if◌then◌else◌}
use Rattle.std.specs.Str.{bytes_eq}
use Rattle.ap_list.specs.Lists.{lookup_by}

-- names with their bytes; where a name stands twice its first bytes count
abbrev pub Files : Type 0
Files = List (List ℕ × List ℕ)

-- the bytes at a name
abbrev pub bytes_at : Files → List ℕ → Option (List ℕ)
bytes_at = lookup_by bytes_eq

-- what stands at a name, where the map is told
abbrev pub told_at : Option Files → List ℕ → Option (Option (List ℕ))
told_at told name = option_map (λ files. bytes_at files name) told

-- at each other name there stands what stood there
abbrev pub OthersStay : List ℕ → Option Files → Option Files → Type 0
OthersStay name old new = (other : List ℕ) → other ≢ name → told_at new other ≡ told_at old other

-- the place of a name's first bytes
abbrev pub place_of : Files → List ℕ → Option ℕ
place_of [] name = None
place_of (file ∷ files) name = if bytes_eq name file.0 then Some 0 else option_map (λ place. place + 1) (place_of files name)
