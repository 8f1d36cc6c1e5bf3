use Rattle.std.proofs.Common.{List, ap, sym, ◌∙◌}
use Rattle.ap_term.specs.declared.term.Term.{Term}
use Rattle.ap_kernel.proofs.PartsFound.{stated_found, stated_alone}
use Rattle.ap_kernel.proofs.parts.+conclusion.Goals as goal

pub returns-in-Some : goal.returns-in-Some
returns-in-Some t c =
    c.conclusion.ensures ∙ sym (ap (λ (p : List Term × Term). p.1) (stated_found c.args.t.now c.in-Some.field-0-0.now c.in-Some.c.now c.in-Some.ensures.is))

pub returns-in-None : goal.returns-in-None
returns-in-None t c = sym (ap (λ (p : List Term × Term). p.1) (stated_alone c.args.t.now c.in-None.ensures.is))
