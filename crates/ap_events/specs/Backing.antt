-- What a second pass needs of a world in which its events were done before.
use Rattle.std.specs.Prelude.{◌≡◌, List, Some, None}
use Rattle.ap_list.specs.Lists.{Each}
use Rattle.ap_value.specs.declared.symbol.Symbol.{Symbol}
use Rattle.ap_value.specs.declared.value.Value.{Value}
use Rattle.ap_world.specs.declared.entry.Entry.{Entry}
use Rattle.ap_world.specs.Sound.{Sound}
use Rattle.ap_world.specs.World.{Shown, entry_of, function_of, constant_of}
use Rattle.ap_world.specs.Alike.{SameButMask, DefinesAlike, Covers}
use Rattle.ap_plain.specs.Ends.{Done, worlds_in}

-- each world on the way is covered, and so is the last one
pub record Fits (d : Done) (U : List Entry) : Type 0 where
  pub on_the_way : Each (λ v. Covers v.entries U) (worlds_in d.told)
  pub last : (v : Shown) → d.next ≡ Some v → Covers v.entries U

-- each entry of a world that an earlier one hadn't is there, masks aside
abbrev pub CoversAdded : List Entry → List Entry → List Entry → Type 0
CoversAdded W V U = (x : Symbol) (y : Entry) → entry_of W x ≡ None → entry_of V x ≡ Some y → (z : Entry) × (entry_of U x ≡ Some z) × SameButMask y z

-- the functions of a world are there, masks aside, and its constants; no theorem is asked
pub record HasDefinitions (W U : List Entry) : Type 0 where
  pub functions : DefinesAlike (function_of W) (function_of U)
  pub constants : (x : Symbol) (v : Value) → constant_of W x ≡ Some v → constant_of U x ≡ Some v

-- a sound list of entries defines alike what the world defines, and has what is made in it on the way
pub record Backed (d : Done) (w : Shown) (U : List Entry) : Type 0 where
  pub sound : Sound U
  pub before : DefinesAlike (function_of w.entries) (function_of U)
  pub made : Each (λ v. CoversAdded w.entries v.entries U) (worlds_in d.told)
