-- The functions that macros stand for.
use Rattle.std.proofs.Common.{ap}
use Rattle.ap_world.specs.Ground.{ground_functions, not_function, append_function}
use Rattle.ap_world.specs.Meaning.{Defs}
use Rattle.ap_world.specs.Sound.{takes, HasFunctions}
use Rattle.ap_translate.specs.Laws.{HasMacroFunctions}

-- they are among the given ones
pub macro_functions : (D : Defs) → HasFunctions D → HasMacroFunctions D
unfolding ground_functions not_function append_function
macro_functions D h = record {
  negates = ap (λ o. takes o 1) h.0;
  appends = ap (λ o. takes o 2) h.1.1.1.1.1.1.1.1.1.1.1.1.1.1.1.1.1.1.1.1.1.1.1.1.1.1.1.1.1.1.0;
}
