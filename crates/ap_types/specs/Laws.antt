-- The laws of kept masks.
use Rattle.std.specs.Prelude.{◌≡◌, true, false, IfSome, List, [], ◌∷◌, ◌++◌, map, length}
use Rattle.ap_value.specs.Values.{V}
use Rattle.ap_world.specs.declared.entry.Function.{Function}
use Rattle.ap_world.specs.declared.entry.Entry.TheVariants as entry
use Rattle.ap_world.specs.Meaning.{Total, CallValue}
use Rattle.ap_world.specs.Types.{Has}
use Rattle.ap_world.specs.Sound.{known, given_function, DefinedAlike, Sound}
use Rattle.ap_world.specs.Ground.{ground_functions}
use Rattle.ap_world.specs.World.{Shown, function_of, has_name}
use Rattle.ap_world.specs.KeptTypes.{kept_types}
use Rattle.ap_kernel.specs.Standing.{DefinesNot}

-- a function that is new in a sound world, and with which every function is total, has the kept mask of
-- every value of a call of it, whether or not it calls itself
abbrev pub KeptMaskHolds : Type 0
KeptMaskHolds = (w : Shown) (f : Function) → Sound w.entries → DefinesNot (function_of w.entries) → has_name w.entries f.name ≡ false
    → Total (function_of (w.entries ++ entry.Function f ∷ [])) → known (function_of (w.entries ++ entry.Function f ∷ [])) f.body ≡ true
    → IfSome (given_function f.name) (DefinedAlike f) → (vs : List V) (v : V) → length f.formals ≡ length vs
    → CallValue (function_of (w.entries ++ entry.Function f ∷ [])) f.name vs v → Has (record { 0 = kept_types w f.name f.body }) v

-- the world of these functions alone, everything enabled
abbrev pub shown : List Function → Shown
shown fs = record { entries = map entry.Function fs; theory = record { disabled = [] } }

-- a function has the mask that it keeps after these
abbrev pub Keeps : List Function → Function → Type 0
Keeps before f = f.mask.0 ≡ kept_types (shown before) f.name f.body

abbrev pub AllKeep : List Function → List Function → Type 0
AllKeep before [] = Unit {0}
AllKeep before (f ∷ fs) = Keeps before f × AllKeep (before ++ f ∷ []) fs

-- each function of the ground world has the mask that its body gives back in the world of those before it
abbrev pub GroundMasksAreKept : Type 0
GroundMasksAreKept = AllKeep [] ground_functions
