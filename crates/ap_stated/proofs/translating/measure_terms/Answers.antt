use Rattle.std.proofs.Common.{◌≡◌, true, IfOk, subst, sym}
use Rattle.ap_list.specs.Lists.{Each}
use Rattle.ap_world.specs.Sound.{known}
use Rattle.ap_world.specs.World.{Shown, function_of}
use Rattle.ap_translate.specs.Answers.{Gives}
use Rattle.ap_translate.specs.Laws.{HasMacroFunctions}
use Rattle.ap_stated.specs.Translating.{translated_all}
use Rattle.ap_stated.proofs.Defining.{macro_functions}
use Rattle.ap_stated.proofs.translating.measure_terms.Goals as goal

pub terms-requires : goal.terms-requires
terms-requires c = record {
  macros =
      subst (λ (u : Shown). HasMacroFunctions (function_of u.entries)) (sym c.world.ensures) (macro_functions (function_of c.args.w.now.entries) c.requires.functions);
}

pub returns-clause-made : goal.returns-clause-made
returns-clause-made c =
    subst (λ fs. Gives c.terms.result (translated_all c.args.w.now.entries c.args.formals.now fs)) c.components.ensures
    (subst (λ (u : Shown). Gives c.terms.result (translated_all u.entries c.args.formals.now c.components.result.now)) c.world.ensures c.terms.ensures.made)

pub returns-clause-known : goal.returns-clause-known
returns-clause-known c =
    subst (λ (u : Shown). IfOk c.terms.result (Each (λ t. known (function_of u.entries) t ≡ true))) c.world.ensures c.terms.ensures.known
