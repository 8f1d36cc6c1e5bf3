-- What seats know of a word, and what the word's rule keeps.
use Rattle.std.specs.Prelude.{◌≡◌, ℕ, ◌+◌, ◌≤◌, Bool, true, false, min, ◌⊎◌, List, [], ◌∷◌, Option, None}
use Rattle.std.specs.List.{slice_get}
use Rattle.ap_word.specs.declared.family.Counted.{Counted}
use Rattle.ap_word.specs.declared.family.Family.{Family}
use Rattle.ap_word.specs.declared.family.View.{View}
use Rattle.ap_word.specs.Stops.{NONE, stops_by}
use mathlib.Core.Option.{some}
use lib.ListN.{get_elem?}

abbrev pub family_of : List Counted → Option ℕ → ℕ → Family
family_of tallies revert limit = record { tallies = tallies; numbers = record { revert = revert; goal_limit = limit } }

-- the family stops by this place
abbrev pub IsStop : Family → ℕ → Type 0
IsStop f i = stops_by f.numbers f.tallies i ≡ true

-- no place, or one by which the family stops
abbrev pub IsPlace : Family → ℕ → Type 0
IsPlace f n = (n ≡ NONE) ⊎ IsStop f n

abbrev pub no_family : Family
no_family = family_of [] None 0

-- the view of a word's first seat, before it is told its family
abbrev pub untold : View
untold = record { told = false; family = no_family; low = NONE; looks = 0 }

-- and then
abbrev pub made : Family → View
made f = record { told = true; family = f; low = NONE; looks = 0 }

abbrev pub told : View → Family → View
told v f = record v { told = true; family = f }

-- after a look that found this number
abbrev pub looked : View → ℕ → View
looked v n = record v { low = n; looks = v.looks + 1 }

-- after a mark
abbrev pub marked : View → ℕ → View
marked v i = record v { low = min v.low i }

-- what a new seat knows by another one
abbrev pub unlooked : View → View
unlooked v = record v { looks = 0 }

-- a view was told the family, and knows no number below the word
pub record Fits (f : Family) (word : ℕ) (v : View) : Type 0 where
  pub told : v.told ≡ true
  pub family : v.family ≡ f
  pub low : word ≤ v.low
  pub place : IsPlace f v.low

-- one seat, which wasn't told a family, and no mark
pub record IsBlank (word : ℕ) (views : List View) : Type 0 where
  pub alone : views ≡ untold ∷ []
  pub unmarked : word ≡ NONE

-- all seats were told one family, by whose places the word goes
pub record IsTold (word : ℕ) (views : List View) : Type 0 where
  pub family : Family
  pub place : IsPlace family word
  pub all : (id : ℕ) (v : View) → get_elem? views id ≡ some v → Fits family word v

-- what the word's rule keeps
pub record Keeps (words : List ℕ) (views : List View) : Type 0 where
  pub word : ℕ
  pub only : words ≡ word ∷ []
  pub known : IsBlank word views ⊎ IsTold word views
