-- Files that are stored one after another.
use Rattle.std.specs.Prelude.{◌≡◌, ◌⊎◌, ℕ, cond, List, [], ◌∷◌, ◌++◌, Option, Some, option_map}
use Rattle.std.specs.Str.{bytes_eq}
use Rattle.ap_outside.specs.Files.{Files, told_at}

-- what stands at a name behind them, where this stood there before
abbrev pub stored_at : Files → List ℕ → Option (List ℕ) → Option (List ℕ)
stored_at [] name old = old
stored_at (file ∷ files) name old = stored_at files name (cond (bytes_eq name file.0) (Some file.1) old)

-- at each name stands what these files leave there
abbrev pub Stored : Option Files → Option Files → Files → Type 0
Stored old new files = (name : List ℕ) → told_at new name ≡ option_map (stored_at files name) (told_at old name)

-- the first of some files has this name
abbrev pub IsFirst : Files → List ℕ → Type 0
IsFirst [] name = ⊥
IsFirst (file ∷ files) name = file.0 ≡ name

-- the first of these files were stored, and of the name of the one behind them nothing is said
pub record StoredPart (old new : Option Files) (files : Files) : Type 0 where
  pub done : Files
  pub rest : Files
  pub whole : files ≡ done ++ rest
  pub elsewhere : (name : List ℕ) → IsFirst rest name ⊎ (told_at new name ≡ option_map (stored_at done name) (told_at old name))
