use Rattle.std.proofs.Common.{◌≡◌, true, false, not, ap, sym, ◌∙◌, rules, arith}
use Rattle.ap_value.specs.Values.{symbol_eq}
use Rattle.ap_term.proofs.Seen.{seen, deeper}
use Rattle.ap_world.specs.Recursion.{has_no_call}
use Rattle.ap_terminate.proofs.Calling.{no_call_var, no_call_quote, no_call_own, no_call_other}
use Rattle.ap_terminate.proofs.calls.+seeking.Goals as goal

pub has_no_call-returns-in-Var : goal.has_no_call-returns-in-Var
has_no_call-returns-in-Var t c = sym (ap (has_no_call c.args.name.now) (seen c.t.view_is c.in-Var.is) ∙ no_call_var c.args.name.now c.in-Var.field-0)

pub has_no_call-returns-in-Quote : goal.has_no_call-returns-in-Quote
has_no_call-returns-in-Quote t c = sym (ap (has_no_call c.args.name.now) (seen c.t.view_is c.in-Quote.is) ∙ no_call_quote c.args.name.now c.in-Quote.field-0)

pub has_no_call-returns-then-not-is_symbol : goal.has_no_call-returns-then-not-is_symbol
has_no_call-returns-then-not-is_symbol t c =
    let q : symbol_eq c.in-Call.f c.args.name.now ≡ false = search rules in
    c.have_no_call.ensures ∙ no_call_other c.args.name.now c.in-Call.f c.args.t.now c.in-Call.ts c.as_slice.result.now (seen c.t.view_is c.in-Call.is) c.as_slice.ensures q

pub has_no_call-returns-else-not-is_symbol : goal.has_no_call-returns-else-not-is_symbol
has_no_call-returns-else-not-is_symbol t c =
    let q : symbol_eq c.in-Call.f c.args.name.now ≡ true = search rules in
    let r : not c.is_symbol.result ≡ false = search rules in
    r ∙ no_call_own c.args.name.now c.in-Call.f c.args.t.now c.in-Call.ts (seen c.t.view_is c.in-Call.is) q

pub has_no_call-have_no_call-requires : goal.has_no_call-have_no_call-requires
has_no_call-have_no_call-requires t c = let d = deeper c.t.view_is c.in-Call.is c.as_slice.ensures in (omega (arith, c.decreases), tt)
