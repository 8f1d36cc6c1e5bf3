-- A recursive function whose obligations are valid keeps a world sound.
use Rattle.std.proofs.Common.{[], ◌∷◌, ◌++◌, map, Some, None, sym, ap, ◌∙◌, subst}
use Rattle.ap_list.specs.Lists.{Each, all_true}
use Rattle.ap_world.specs.declared.entry.Entry.TheVariants as entry
use Rattle.ap_world.specs.Meaning.{Defs, Total, Valid}
use Rattle.ap_world.specs.Recursion.{natural_obligations, falling_obligations}
use Rattle.ap_world.specs.Sound.{known, speaks_of, components, Recurs}
use Rattle.ap_world.specs.World.{as_function, function_of}
use Rattle.ap_world.proofs.Knowing.{each_true, each_same}
use Rattle.ap_world.proofs.TotalMeaning.{models}
use Rattle.ap_world.proofs.Starting.{val_not}
use Rattle.ap_world.proofs.Extending.{Extends, extends-append, not_taken, all_known_extend, valid_extend}
use Rattle.ap_world.proofs.Adding.{sound-function}
use Rattle.ap_admit.specs.Admission.{AdmissionIsSound, ObligationsSuffice}
use Rattle.ap_world.proofs.Lists.{each_left, each_right}
use Rattle.ap_world.proofs.Natural.{natural_from, count_natural}
use Rattle.ap_world.proofs.Cases.{adds_last}
use Rattle.ap_world.proofs.Grounded.{has_not, has_natp, has_count, nots, given_free}
use Rattle.ap_world.proofs.Chosen.{chosen_count}
use Rattle.ap_admit.proofs.Ranked.{total_admit}

pub sound_admit : AdmissionIsSound
sound_admit W f m sound functions a natural falls masked = sound-function W f sound total (record {
  formals = a.formals;
  body_speaks = a.body_speaks;
  measure_speaks = ap (λ o. all_true (map (speaks_of f.formals) (components o))) a.measure ∙ a.measure_speaks;
  body_known = a.body_known;
  measure_known = ap (λ o. all_true (map (known E) (components o))) a.measure ∙ all_known_extend D E larger m a.measure_known;
  given = given_free D functions f (ap as_function (not_taken W f.name a.fresh).1);
  recursion = subst (Recurs E f) (sym a.measure) (record {
    recurs = a.recurs;
    unnested = a.unnested;
    cases = a.cases;
    natural = each_same _ (valid_extend D E larger) natural;
    falls = each_same _ (valid_extend D E larger) falls;
  });
  mask = masked total;
})
  where
    D : Defs
    D = function_of W

    E : Defs
    E = function_of (W ++ entry.Function f ∷ [])

    larger : Extends (function_of W) (function_of (W ++ entry.Function f ∷ []))
    larger = extends-append W (entry.Function f ∷ [])

    total : Total (function_of (W ++ entry.Function f ∷ []))
    total =
        let (A, ms) = models (function_of W) sound.total in
        total_admit (function_of W) (function_of (W ++ entry.Function f ∷ [])) f.name f (adds_last W f a.fresh) A ms (val_not (function_of W) A ms (has_not (function_of W) functions)) (nots (function_of W) functions)
        m (each_true (speaks_of f.formals) m a.measure_speaks) (natural_from (function_of W) A ms (has_not (function_of W) functions) (has_natp (function_of W) functions) m natural)
        a.body_known a.unnested (subst (λ ks. Each (Valid (function_of W)) (falling_obligations f.formals m ks)) a.cases falls)

pub obligations_suffice : ObligationsSuffice
obligations_suffice W f (Some g) m sound functions a measure valid masked =
    sound_admit W f m sound functions a (each_left (Valid (function_of W)) (natural_obligations m) (falling_obligations f.formals m f.cases) valid)
    (each_right (Valid (function_of W)) (natural_obligations m) (falling_obligations f.formals m f.cases) valid) masked
obligations_suffice W f None m sound functions a measure valid masked =
    let (x, same, there) = chosen_count f.formals f.formals f.cases m measure in
    sound_admit W f m sound functions a
    (subst (λ us. Each (Valid (function_of W)) (natural_obligations us)) (sym same)
    (count_natural W sound (has_not (function_of W) functions) (has_natp (function_of W) functions) (has_count (function_of W) functions) x))
    valid masked
