-- The counts of a family of two siblings, of which the second stops.
use Rattle.std.specs.Prelude.{List, [], ◌∷◌, true, false}
use Rattle.ap_word.specs.declared.family.Counted.{Counted}

abbrev pub second_stops : List Counted
second_stops = record { pushes = 0; goals = 3; stopped = false } ∷ record { pushes = 0; goals = 1; stopped = true } ∷ []
