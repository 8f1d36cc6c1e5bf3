-- What a recursive function with a measure needs besides the validity of its obligations, and the laws of its admission.
use Rattle.std.specs.Prelude.{◌≡◌, Bool, true, false, List, [], ◌∷◌, ◌++◌, map, length, Option, Some, is_some}
use Rattle.ap_list.specs.Lists.{Each, all_true, is_distinct}
use Rattle.ap_value.specs.declared.symbol.Symbol.{Symbol}
use Rattle.ap_value.specs.Values.{V, symbol_eq}
use Rattle.ap_term.specs.declared.term.Term.{Term}
use Rattle.ap_world.specs.declared.entry.Case.{Case}
use Rattle.ap_world.specs.declared.entry.Measure.{Measure}
use Rattle.ap_world.specs.declared.entry.Function.{Function}
use Rattle.ap_world.specs.declared.entry.Entry.{Entry}
use Rattle.ap_world.specs.declared.entry.Entry.TheVariants as entry
use Rattle.ap_world.specs.Meaning.{Defs, Total, Valid, CallValue}
use Rattle.ap_world.specs.Types.{Has}
use Rattle.ap_world.specs.Recursion.{has_no_call, cases_of, is_unnested, chosen_measure, measure_by, natural_obligations, falling_obligations, obligations}
use Rattle.ap_world.specs.Sound.{known, speaks_of, HasFunctions, Sound}
use Rattle.ap_world.specs.World.{function_of, has_name}

-- the world with the function at its end
abbrev pub with_function : List Entry → Function → List Entry
with_function W f = W ++ entry.Function f ∷ []

-- what is tested of f and its measure m
pub record Admissible (W : List Entry) (f : Function) (m : List Term) : Type 0 where
  pub fresh : has_name W f.name ≡ false
  pub formals : is_distinct symbol_eq f.formals ≡ true
  pub body_speaks : speaks_of f.formals f.body ≡ true
  pub measure_speaks : all_true (map (speaks_of f.formals) m) ≡ true
  pub body_known : known (function_of (with_function W f)) f.body ≡ true
  pub measure_known : all_true (map (known (function_of W)) m) ≡ true
  pub recurs : has_no_call f.name f.body ≡ false
  pub unnested : is_unnested f.name f.body ≡ true
  pub cases : f.cases ≡ cases_of f.name f.body
  pub measure : f.measure ≡ Some (record { 0 = m })

-- each value of a call is in the mask
abbrev pub IsMasked : List Entry → Function → Type 0
IsMasked W f = (vs : List V) (v : V) → length f.formals ≡ length vs → CallValue (function_of W) f.name vs v → Has f.mask v

-- where its obligations are valid, the function keeps the world sound; the mask's fact may use that the larger world is total
abbrev pub AdmissionIsSound : Type 0
AdmissionIsSound = (W : List Entry) (f : Function) (m : List Term) → Sound W → HasFunctions (function_of W) → Admissible W f m
    → Each (Valid (function_of W)) (natural_obligations m) → Each (Valid (function_of W)) (falling_obligations f.formals m f.cases)
    → (Total (function_of (with_function W f)) → IsMasked (with_function W f) f)
    → Sound (with_function W f)

-- the same of what is asked: a measure that was chosen owes no proof that it is natural
abbrev pub ObligationsSuffice : Type 0
ObligationsSuffice = (W : List Entry) (f : Function) (o : Option Measure) (m : List Term) → Sound W → HasFunctions (function_of W) → Admissible W f m
    → measure_by o f.formals f.cases ≡ Some m
    → Each (Valid (function_of W)) (obligations (is_some o) f.formals m f.cases)
    → (Total (function_of (with_function W f)) → IsMasked (with_function W f) f)
    → Sound (with_function W f)

-- the obligations speak of the world as it is
abbrev pub ObligationsAreKnown : Type 0
ObligationsAreKnown = (W : List Entry) (f : Function) (m : List Term) (given : Bool) → HasFunctions (function_of W) → Admissible W f m
    → Each (λ c. all_true (map (known (function_of W)) c) ≡ true) (obligations given f.formals m f.cases)

-- a chosen measure speaks of the formals, and is known
abbrev pub ChosenMeasureFits : Type 0
ChosenMeasureFits = (D : Defs) → HasFunctions D → (formals : List Symbol) (ks : List Case) (m : List Term) → chosen_measure formals ks ≡ Some m
    → (all_true (map (speaks_of formals) m) ≡ true) × (all_true (map (known D) m) ≡ true)
