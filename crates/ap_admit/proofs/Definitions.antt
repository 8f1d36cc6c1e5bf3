-- A definition that may be admitted, whose obligations are valid, keeps the world sound.
use Rattle.std.proofs.Common.{◌≡◌, ◌&&◌, nat_le, length, Bool, true, false, cond, zip, List, map, Option, Some, None, refl, sym, ap, subst, is_some}
use Rattle.ap_list.specs.Lists.{Each, all_true}
use Rattle.ap_value.specs.declared.symbol.Symbol.{Symbol}
use Rattle.ap_term.specs.declared.term.Term.{Term}
use Rattle.ap_term.specs.declared.term.Clause.{Clause}
use Rattle.ap_world.specs.declared.entry.Case.{Case}
use Rattle.ap_world.specs.declared.entry.Measure.{Measure}
use Rattle.ap_world.specs.declared.entry.Defun.{Defun}
use Rattle.ap_world.specs.Meaning.{Defs, Valid}
use Rattle.ap_world.specs.Recursion.{has_no_call, is_unnested, measure_by}
use Rattle.ap_world.specs.Sound.{known, speaks_of, components, HasFunctions, Sound}
use Rattle.ap_world.specs.World.{Shown, as_function, function_of}
use Rattle.ap_world.proofs.Adding.{sound-define}
use Rattle.ap_world.proofs.Extending.{not_taken}
use Rattle.ap_types.proofs.KeptHolds.{plain_kept}
use Rattle.ap_admit.specs.Admission.{with_function, Admissible}
use Rattle.ap_terminate.specs.Distinct.{clause_of}
use Rattle.ap_admit.specs.Condition.{admitted_by, IsMeasured, IsAdmissible, owed, AdmittedIsSound, OwedIsKnown}
use Rattle.ap_world.proofs.Lists.{each_map}
use Rattle.ap_world.proofs.Cases.{clear, adds_last}
use Rattle.ap_world.proofs.Grounded.{has_not, given_free}
use Rattle.ap_world.proofs.Chosen.{chosen_fits}
use Rattle.ap_admit.proofs.Known.{obligations_known}
use Rattle.ap_admit.proofs.Masked.{admission_keeps_sound}

-- a measure that a definition has is one of a recursion that isn't nested
measured_by : (b : Bool) (o : Option (List Term)) (m : List Term) → cond b o None ≡ Some m → (b ≡ true) × (o ≡ Some m)
measured_by true o m h = (refl, h)
measured_by false o m h = cc

-- it is the given one, where one is given
given_is : (b : Bool) (g m : List Term) → cond b (Some g) None ≡ Some m → g ≡ m
given_is true g m h = cc
given_is false g m h = cc

-- and so speaks of the formals and of the world
fits : (D : Defs) → HasFunctions D → (formals : List Symbol) (ks : List Case) (o : Option Measure) (m : List Term) → measure_by o formals ks ≡ Some m
    → all_true (map (speaks_of formals) (components o)) ≡ true → all_true (map (known D) (components o)) ≡ true
    → (all_true (map (speaks_of formals) m) ≡ true) × (all_true (map (known D) m) ≡ true)
fits D functions formals ks None m h s k = chosen_fits D functions formals ks m h
fits D functions formals ks (Some g) m h s k =
    let e = given_is (nat_le 1 (length g.0) && nat_le (length g.0) 4) g.0 m h in
    (subst (λ us. all_true (map (speaks_of formals) us) ≡ true) e s, subst (λ us. all_true (map (known D) us) ≡ true) e k)

-- a definition that calls itself is admissible as a function with its measure
pub admissible : (w : Shown) (d : Defun) (m : Measure) → HasFunctions (function_of w.entries) → has_no_call d.name d.body ≡ false
    → IsAdmissible w d m → IsMeasured w d m
    → Admissible w.entries (admitted_by false w d m) m.0
admissible w d m functions recurs a r =
    let p = measured_by (is_unnested d.name d.body) (measure_by d.measure d.formals d.cases) m.0 r.measure in
    let q = fits (function_of w.entries) functions d.formals d.cases d.measure m.0 p.1 r.speaks r.measure_known in
    record {
      fresh = a.fresh;
      formals = a.formals;
      body_speaks = a.body_speaks;
      measure_speaks = q.0;
      body_known = subst (λ b. known (function_of (with_function w.entries (admitted_by b w d m))) d.body ≡ true) recurs a.body_known;
      measure_known = q.1;
      recurs = recurs;
      unnested = p.0;
      cases = r.cases;
      measure = refl;
    }

pub admitted_is_sound : AdmittedIsSound
admitted_is_sound w d m cs sound functions a paid =
    go (has_no_call d.name d.body) refl
  where
    go : (b : Bool) → has_no_call d.name d.body ≡ b → Sound (with_function w.entries (admitted_by (has_no_call d.name d.body) w d m))
    go false recurs =
        let r = a.measured recurs in
        let o = paid recurs in
        let p = measured_by (is_unnested d.name d.body) (measure_by d.measure d.formals d.cases) m.0 r.measure in
        let valid : Each (Valid (function_of w.entries)) (owed d m) =
        each_map (λ (c : Clause). Valid (function_of w.entries) c.0) clause_of (owed d m) (subst (Each (λ (c : Clause). Valid (function_of w.entries) c.0)) o.all o.valid) in
        subst (λ b. Sound (with_function w.entries (admitted_by b w d m))) (sym recurs)
        (admission_keeps_sound w (admitted_by false w d m) d.measure m.0 sound functions (admissible w d m functions recurs a r) p.1 valid refl)
    go true plain =
        let f = admitted_by true w d m in
        let beside : known (function_of (with_function w.entries f)) d.body ≡ true =
        subst (λ b. known (function_of (with_function w.entries (admitted_by b w d m))) d.body ≡ true) plain a.body_known in
        let alone : known (function_of w.entries) d.body ≡ true =
        clear (function_of w.entries) (function_of (with_function w.entries f)) d.name f (adds_last w.entries f a.fresh) d.body plain beside in
        subst (λ b. Sound (with_function w.entries (admitted_by b w d m))) (sym plain)
        (sound-define w.entries f sound a.fresh a.formals a.body_speaks alone refl refl
        (given_free (function_of w.entries) functions f (ap as_function (not_taken w.entries d.name a.fresh).1))
        (λ vs v l h. plain_kept w d.name d.body sound (has_not (function_of w.entries) functions) a.fresh alone (zip d.formals vs) v h))

pub owed_is_known : OwedIsKnown
owed_is_known w d m functions a recurs =
    obligations_known w.entries (admitted_by false w d m) m.0 (is_some d.measure) functions (admissible w d m functions recurs a (a.measured recurs))
