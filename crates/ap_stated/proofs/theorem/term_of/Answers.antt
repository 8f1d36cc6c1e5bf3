use Rattle.std.proofs.Common.{IfOk, IsTrue, subst, sym}
use Rattle.ap_world.specs.Sound.{known, HasFunctions}
use Rattle.ap_world.specs.World.{Shown, function_of}
use Rattle.ap_stated.proofs.Answered.{kept_translated}
use Rattle.ap_stated.proofs.Defining.{macro_functions}
use Rattle.ap_stated.proofs.theorem.term_of.Goals as goal

pub returns-clause-known : goal.returns-clause-known
returns-clause-known c =
    let functions = subst (λ (v : Shown). HasFunctions (function_of v.entries)) (sym c.world.ensures) c.requires.functions in
    kept_translated c.translate.result c.as_translated.result (λ u. IsTrue (known (function_of c.args.w.now.entries) u)) c.as_translated.ensures.same
    (subst (λ (v : Shown). IfOk c.translate.result (λ u. IsTrue (known (function_of v.entries) u))) c.world.ensures (c.translate.ensures.known (macro_functions _ functions)))
