-- Why a definition has no measure.
use Rattle.std.proofs.Common.{◌≡◌, Bool, true, false, true≢false, cond, not, ◌&&◌, List, Option, Some, None, Result, Err, IsTrue, is_none, refl, ap, sym, ◌∙◌}
use Rattle.std.specs.Prelude.{◌↔◌, IsErrOf}
use Rattle.ap_value.specs.declared.symbol.Symbol.{Symbol}
use Rattle.ap_term.specs.declared.term.Term.{Term}
use Rattle.ap_world.specs.declared.entry.Case.{Case}
use Rattle.ap_world.specs.declared.entry.Measure.{Measure}
use Rattle.ap_world.specs.declared.entry.Defun.{Defun}
use Rattle.ap_world.specs.Recursion.{is_unnested, chosen_measure, measure_by, measure_of}
use Rattle.ap_terminate.specs.declared.measures.TerminateError.{TerminateError}
use Rattle.ap_terminate.specs.Refusals.{is_well_formed, is_bad, is_lacking, is_nested, has_bad_measure, lacks_measure}
use Rattle.ap_stated.specs.Definitions.{unmeasured}

both : (a b : Bool) → (a && b) ≡ true → (a ≡ true) × (b ≡ true)
both true b h = (refl, h)
both false b h = absurd (true≢false (sym h))

none_left : (b : Bool) (m : List Term) → not b ≡ true → cond b (Some m) None ≡ None
none_left true m h = cc
none_left false m h = refl

not_there : {A : Type 0} (o : Option A) → is_none o ≡ true → o ≡ None
not_there None h = refl
not_there (Some a) h = cc

-- a measure that isn't well formed is none
bad_none : (o : Option Measure) (formals : List Symbol) (ks : List Case) → is_bad o ≡ true → measure_by o formals ks ≡ None
bad_none None formals ks h = cc
bad_none (Some m) formals ks h = none_left (is_well_formed m) m.0 h

lacking_none : (o : Option Measure) (formals : List Symbol) (ks : List Case) → is_lacking o formals ks ≡ true → (is_bad o ≡ false) × (measure_by o formals ks ≡ None)
lacking_none None formals ks h = (refl, not_there (chosen_measure formals ks) h)
lacking_none (Some m) formals ks h = absurd (true≢false (sym h))

nested_by : (u : Bool) (o : Option (List Term)) → not u ≡ true → cond u o None ≡ None
nested_by true o h = cc
nested_by false o h = refl

-- one that has none has no measure, and it is told why
pub nested : (d : Defun) → is_nested d ≡ true → (measure_of d ≡ None) × (unmeasured d ≡ TerminateError.NestedRecursion)
nested d h = (
  nested_by (is_unnested d.name d.body) (measure_by d.measure d.formals d.cases) h,
  ap (λ b. cond b TerminateError.NestedRecursion (cond (has_bad_measure d) TerminateError.BadMeasure TerminateError.NoMeasure)) h,
)

pub bad : (d : Defun) → has_bad_measure d ≡ true → (measure_of d ≡ None) × (unmeasured d ≡ TerminateError.BadMeasure)
bad d h =
    let p = both (is_unnested d.name d.body) (is_bad d.measure) h in (
      ap (λ u. cond u (measure_by d.measure d.formals d.cases) None) p.0 ∙ bad_none d.measure d.formals d.cases p.1,
      ap (λ u. cond (not u) TerminateError.NestedRecursion (cond (u && is_bad d.measure) TerminateError.BadMeasure TerminateError.NoMeasure)) p.0
          ∙ ap (λ b. cond b TerminateError.BadMeasure TerminateError.NoMeasure) p.1,
    )

pub lacking : (d : Defun) → lacks_measure d ≡ true → (measure_of d ≡ None) × (unmeasured d ≡ TerminateError.NoMeasure)
lacking d h =
    let p = both (is_unnested d.name d.body) (is_lacking d.measure d.formals d.cases) h in
    let q = lacking_none d.measure d.formals d.cases p.1 in (
      ap (λ u. cond u (measure_by d.measure d.formals d.cases) None) p.0 ∙ q.1,
      ap (λ u. cond (not u) TerminateError.NestedRecursion (cond (u && is_bad d.measure) TerminateError.BadMeasure TerminateError.NoMeasure)) p.0
          ∙ ap (λ b. cond b TerminateError.BadMeasure TerminateError.NoMeasure) q.0,
    )

-- what an error other than want of memory tells
pub told : (d : Defun) (r : Result Measure TerminateError) (e : TerminateError) → r ≡ Err e → (e ≡ TerminateError.NoMemory → ⊥)
    → (IsErrOf r TerminateError.NestedRecursion ↔ IsTrue (is_nested d)) → (IsErrOf r TerminateError.BadMeasure ↔ IsTrue (has_bad_measure d))
    → (IsErrOf r TerminateError.NoMeasure ↔ IsTrue (lacks_measure d)) → (measure_of d ≡ None) × (unmeasured d ≡ e)
told d r TerminateError.NestedRecursion is other n b l = nested d (n.0 is)
told d r TerminateError.BadMeasure is other n b l = bad d (b.0 is)
told d r TerminateError.NoMeasure is other n b l = lacking d (l.0 is)
told d r TerminateError.NoMemory is other n b l = absurd (other refl)
