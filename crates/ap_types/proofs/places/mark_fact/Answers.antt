use Rattle.std.proofs.Common.{subst}
use Rattle.ap_term.proofs.Seen.{seen}
use Rattle.ap_types.specs.Spoken.{AreSilent}
use Rattle.ap_types.proofs.Unspoken.{silent_var, silent_quote, silent_call}
use Rattle.ap_types.proofs.places.mark_fact.Goals as goal

pub returns-in-Var : goal.returns-in-Var
returns-in-Var c u free =
    let first = c.mark.ensures u free in
    (first.0, silent_var c.args.fact.now u c.in-Var.field-0 (seen c.fact.view_is c.in-Var.is) first.1)

pub returns-in-Quote : goal.returns-in-Quote
returns-in-Quote c u free =
    let first = c.mark.ensures u free in
    (first.0, silent_quote c.args.fact.now u c.in-Quote.field-0 (seen c.fact.view_is c.in-Quote.is) first.1)

pub returns-in-Call : goal.returns-in-Call
returns-in-Call c u free =
    let second = c.mark_arguments.ensures u free in
    let first = c.mark.ensures u second.0 in
    (first.0, silent_call c.args.fact.now u c.in-Call.field-0 c.in-Call.ts (seen c.fact.view_is c.in-Call.is) first.1 (subst (λ z. AreSilent z u) c.as_slice.ensures second.1))
