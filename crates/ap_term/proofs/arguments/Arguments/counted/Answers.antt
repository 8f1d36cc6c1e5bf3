use Rattle.std.proofs.Common.{◌≡◌, refl, sym, ap, ◌∙◌, arith}
use Rattle.ap_term.specs.Capped.{capped}
use Rattle.ap_term.proofs.KeptCounts.{variables_call, functions_call, constants_call}
use Rattle.ap_term.proofs.arguments.Arguments.counted.Goals as goal

pub returns : goal.returns
returns c =
    let f = c.args.head.now in
    let ts = c.args.self.now in
    record {
      variables = c.variables.ensures ∙ ap capped (sym (variables_call f ts));
      functions = rw (functions_call f ts) (omega (arith, c.functions.ensures, c.saturating_add.ensures));
      constants = c.constants.ensures ∙ ap capped (sym (constants_call f ts));
      leaves = c.leaves_under.ensures;
      hash = c.hash_under.ensures;
      has_if = c.has_if_under.ensures;
    }
