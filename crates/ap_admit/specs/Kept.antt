-- The law of admission with the mask that a function keeps, and what a stub in the function's place is good for.
use Rattle.std.specs.Prelude.{◌≡◌, false, List, Option, Some, is_some}
use Rattle.ap_list.specs.Lists.{Each}
use Rattle.ap_term.specs.declared.term.Term.{Term}
use Rattle.ap_world.specs.declared.entry.Measure.{Measure}
use Rattle.ap_world.specs.declared.entry.Function.{Function}
use Rattle.ap_world.specs.declared.entry.Entry.{Entry}
use Rattle.ap_world.specs.Meaning.{Valid}
use Rattle.ap_world.specs.Recursion.{measure_by, obligations}
use Rattle.ap_world.specs.Sound.{known, HasFunctions, Sound}
use Rattle.ap_world.specs.World.{Shown, function_of, has_name}
use Rattle.ap_world.specs.KeptTypes.{kept_types}
use Rattle.ap_admit.specs.Admission.{with_function, Admissible}

-- a function with the mask that it keeps, whose measure is the given or the chosen one and whose obligations are valid, keeps the world sound
abbrev pub AdmissionKeepsSound : Type 0
AdmissionKeepsSound = (w : Shown) (f : Function) (o : Option Measure) (m : List Term) → Sound w.entries → HasFunctions (function_of w.entries) → Admissible w.entries f m
    → measure_by o f.formals f.cases ≡ Some m
    → Each (Valid (function_of w.entries)) (obligations (is_some o) f.formals m f.cases)
    → f.mask ≡ record { 0 = kept_types w f.name f.body }
    → Sound (with_function w.entries f)

-- what is known in a world with a function is known in the world with another of its name and formals
abbrev pub StubsKnow : Type 0
StubsKnow = (W : List Entry) (f g : Function) → f.name ≡ g.name → f.formals ≡ g.formals → has_name W f.name ≡ false
    → (u : Term) → known (function_of (with_function W f)) u ≡ known (function_of (with_function W g)) u
