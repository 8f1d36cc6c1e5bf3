-- Why a definition has no measure: of these at most one is true.
use Rattle.std.specs.Prelude.{Bool, false, not, ◌&&◌, nat_le, length, List, Option, Some, None, is_none}
use Rattle.ap_value.specs.declared.symbol.Symbol.{Symbol}
use Rattle.ap_world.specs.declared.entry.Case.{Case}
use Rattle.ap_world.specs.declared.entry.Measure.{Measure}
use Rattle.ap_world.specs.declared.entry.Defun.{Defun}
use Rattle.ap_world.specs.Recursion.{is_unnested, chosen_measure}

-- its recursion is nested
abbrev pub is_nested : Defun → Bool
is_nested d = not (is_unnested d.name d.body)

-- a measure has one to four components
abbrev pub is_well_formed : Measure → Bool
is_well_formed m = nat_le 1 (length m.0) && nat_le (length m.0) 4

-- a measure is given that hasn't
abbrev pub is_bad : Option Measure → Bool
is_bad None = false
is_bad (Some m) = not (is_well_formed m)

abbrev pub has_bad_measure : Defun → Bool
has_bad_measure d = is_unnested d.name d.body && is_bad d.measure

-- none is given, and none can be chosen
abbrev pub is_lacking : Option Measure → List Symbol → List Case → Bool
is_lacking None formals ks = is_none (chosen_measure formals ks)
is_lacking (Some m) formals ks = false

abbrev pub lacks_measure : Defun → Bool
lacks_measure d = is_unnested d.name d.body && is_lacking d.measure d.formals d.cases
