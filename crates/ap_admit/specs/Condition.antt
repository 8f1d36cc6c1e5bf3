-- When a definition may be admitted, and the function that it then is.
use Rattle.std.specs.Prelude.{◌≡◌, Bool, true, false, cond, List, [], map, Some, None, is_some}
use Rattle.ap_list.specs.Lists.{Each, all_true, is_distinct}
use Rattle.ap_value.specs.Values.{symbol_eq}
use Rattle.ap_term.specs.declared.term.Term.{Term}
use Rattle.ap_term.specs.declared.term.Clause.{Clause}
use Rattle.ap_world.specs.declared.entry.Mask.{Mask}
use Rattle.ap_world.specs.declared.entry.Measure.{Measure}
use Rattle.ap_world.specs.declared.entry.Defun.{Defun}
use Rattle.ap_world.specs.declared.entry.Function.{Function}
use Rattle.ap_world.specs.Meaning.{Valid}
use Rattle.ap_world.specs.Recursion.{has_no_call, cases_of, measure_of, obligations}
use Rattle.ap_world.specs.Sound.{known, speaks_of, components, HasFunctions, Sound}
use Rattle.ap_world.specs.World.{Shown, function_of, has_name}
use Rattle.ap_world.specs.KeptTypes.{kept_types}
use Rattle.ap_terminate.specs.Distinct.{clause_of}
use Rattle.ap_admit.specs.Admission.{with_function}

-- the function of a definition, with a mask: only one that calls itself keeps a measure and the cases
abbrev pub function_by : Bool → Defun → Measure → Mask → Function
function_by plain d m k = record {
  name = d.name;
  formals = d.formals;
  body = d.body;
  measure = cond plain None (Some m);
  cases = cond plain [] d.cases;
  mask = k;
}

-- its mask is the one that its body gives back
abbrev pub admitted_by : Bool → Shown → Defun → Measure → Function
admitted_by plain w d m = function_by plain d m (record { 0 = kept_types w d.name d.body })

abbrev pub admitted : Shown → Defun → Measure → Function
admitted w d m = admitted_by (has_no_call d.name d.body) w d m

-- of a definition that calls itself: the measure is the given or the chosen one and the cases are those of the body; what is
-- given speaks of the formals and of the world
pub record IsMeasured (w : Shown) (d : Defun) (m : Measure) : Type 0 where
  pub measure : measure_of d ≡ Some m.0
  pub cases : d.cases ≡ cases_of d.name d.body
  pub speaks : all_true (map (speaks_of d.formals) (components d.measure)) ≡ true
  pub measure_known : all_true (map (known (function_of w.entries)) (components d.measure)) ≡ true

-- what is tested of a definition: its name is free, its formals are distinct, its body speaks of them, and of the world with
-- the function in it
pub record IsAdmissible (w : Shown) (d : Defun) (m : Measure) : Type 0 where
  pub fresh : has_name w.entries d.name ≡ false
  pub formals : is_distinct symbol_eq d.formals ≡ true
  pub body_speaks : speaks_of d.formals d.body ≡ true
  pub body_known : known (function_of (with_function w.entries (admitted w d m))) d.body ≡ true
  pub measured : has_no_call d.name d.body ≡ false → IsMeasured w d m

-- what a definition owes that calls itself
abbrev pub owed : Defun → Measure → List (List Term)
owed d m = obligations (is_some d.measure) d.formals m.0 d.cases

-- the clauses are just these, and are valid
pub record IsPaid (w : Shown) (d : Defun) (m : Measure) (cs : List Clause) : Type 0 where
  pub all : cs ≡ map clause_of (owed d m)
  pub valid : Each (λ c. Valid (function_of w.entries) c.0) cs

-- with a definition that may be admitted, and whose obligations are valid where it calls itself, the world is sound
abbrev pub AdmittedIsSound : Type 0
AdmittedIsSound = (w : Shown) (d : Defun) (m : Measure) (cs : List Clause) → Sound w.entries → HasFunctions (function_of w.entries)
    → IsAdmissible w d m → (has_no_call d.name d.body ≡ false → IsPaid w d m cs) → Sound (with_function w.entries (admitted w d m))

-- what is owed speaks of the world without the function
abbrev pub OwedIsKnown : Type 0
OwedIsKnown = (w : Shown) (d : Defun) (m : Measure) → HasFunctions (function_of w.entries) → IsAdmissible w d m → has_no_call d.name d.body ≡ false
    → Each (λ c. all_true (map (known (function_of w.entries)) c) ≡ true) (owed d m)
