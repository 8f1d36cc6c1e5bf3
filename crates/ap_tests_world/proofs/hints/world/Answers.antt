use Rattle.std.proofs.Common.{ap, sym, subst}
use Rattle.ap_world.specs.Ground.{ground_functions, not_function, append_function}
use Rattle.ap_world.specs.Meaning.{Defs}
use Rattle.ap_world.specs.Sound.{takes, HasFunctions}
use Rattle.ap_world.specs.World.{Shown, function_of}
use Rattle.ap_translate.specs.Laws.{HasMacroFunctions}
use Rattle.ap_tests_world.proofs.hints.world.Goals as goal

-- the functions that macros stand for are among the given ones
macro_functions : (D : Defs) → HasFunctions D → HasMacroFunctions D
unfolding ground_functions not_function append_function
macro_functions D h = record {
  negates = ap (λ o. takes o 1) h.0;
  appends = ap (λ o. takes o 2) h.1.1.1.1.1.1.1.1.1.1.1.1.1.1.1.1.1.1.1.1.1.1.1.1.1.1.1.1.1.1.0;
}

pub returns : goal.returns
returns c =
    subst (λ (v : Shown). HasMacroFunctions (function_of v.entries)) (sym c.in_ok-world.ensures)
    (macro_functions _ c.ground_has_its_functions.ensures)
