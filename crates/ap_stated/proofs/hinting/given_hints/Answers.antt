use Rattle.std.proofs.Common.{subst, sym}
use Rattle.ap_world.specs.World.{Shown, function_of}
use Rattle.ap_translate.specs.Laws.{HasMacroFunctions}
use Rattle.ap_stated.proofs.Defining.{macro_functions}
use Rattle.ap_stated.proofs.hinting.given_hints.Goals as goal

pub hints_of-requires : goal.hints_of-requires
hints_of-requires c = record {
  functions =
      subst (λ (u : Shown). HasMacroFunctions (function_of u.entries)) (sym c.world.ensures) (macro_functions (function_of c.args.w.now.entries) c.requires.functions);
}
