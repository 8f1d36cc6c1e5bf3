-- The obligations' terms are known in the world as it is.
use Rattle.std.proofs.Common.{◌≡◌, Bool, true, false, map, length, sym, subst}
use Rattle.ap_list.specs.Lists.{Each, all_true}
use Rattle.ap_world.specs.Meaning.{Defs}
use Rattle.ap_world.specs.Recursion.{natural_obligations, falling_obligations, obligations}
use Rattle.ap_world.specs.Sound.{known}
use Rattle.ap_world.specs.World.{function_of}
use Rattle.ap_world.proofs.Knowing.{each_true}
use Rattle.ap_world.proofs.Adding.{each_append}
use Rattle.ap_admit.specs.Admission.{with_function, ObligationsAreKnown, ChosenMeasureFits}
use Rattle.ap_world.proofs.Cases.{CaseKnown, cases_known, adds_last}
use Rattle.ap_world.proofs.Grounded.{nots}
use Rattle.ap_world.proofs.KnownTerms.{falling_known, natural_known}
use Rattle.ap_world.proofs.Chosen.{chosen_fits}

pub obligations_known : ObligationsAreKnown
obligations_known W f m given functions a = go given
  where
    D : Defs
    D = function_of W

    measure : Each (λ u. known (function_of W) u ≡ true) m
    measure = each_true (known (function_of W)) m a.measure_known

    cases : Each (CaseKnown (function_of W) (length f.formals)) f.cases
    cases = subst (Each (CaseKnown (function_of W) (length f.formals))) (sym a.cases)
        (cases_known (function_of W) (function_of (with_function W f)) f.name f (adds_last W f a.fresh) (nots (function_of W) functions) f.body a.body_known a.unnested)

    falls : Each (λ c. all_true (map (known (function_of W)) c) ≡ true) (falling_obligations f.formals m f.cases)
    falls = falling_known (function_of W) (nots (function_of W) functions) (length f.formals) f.formals m f.cases measure cases

    go : (given : Bool) → Each (λ c. all_true (map (known (function_of W)) c) ≡ true) (obligations given f.formals m f.cases)
    go true = each_append (λ c. all_true (map (known (function_of W)) c) ≡ true) (natural_obligations m) (falling_obligations f.formals m f.cases) (natural_known (function_of W) functions m measure) falls
    go false = falls

pub chosen_measure_fits : ChosenMeasureFits
chosen_measure_fits = chosen_fits
