use Rattle.std.proofs.Common.{◌≡◌, true, false, ap, sym, ◌∙◌, ◌&&◌, rules, arith}
use Rattle.ap_term.proofs.Seen.{seen, deeper}
use Rattle.ap_world.specs.Recursion.{calls_in, has_flat_calls, own_call}
use Rattle.ap_terminate.proofs.Calling.{each_flat, flat_calls_var, flat_calls_quote, flat_calls_call}
use Rattle.ap_terminate.proofs.calls.+nesting.Goals as goal

pub has_flat_calls-returns-in-Var : goal.has_flat_calls-returns-in-Var
has_flat_calls-returns-in-Var t c = sym (ap (λ u. has_flat_calls c.args.name.now (calls_in c.args.name.now u)) (seen c.t.view_is c.in-Var.is) ∙ flat_calls_var c.args.name.now c.in-Var.field-0)

pub has_flat_calls-returns-in-Quote : goal.has_flat_calls-returns-in-Quote
has_flat_calls-returns-in-Quote t c = sym (ap (λ u. has_flat_calls c.args.name.now (calls_in c.args.name.now u)) (seen c.t.view_is c.in-Quote.is) ∙ flat_calls_quote c.args.name.now c.in-Quote.field-0)

pub has_flat_calls-returns-then-is_flat_call : goal.has_flat_calls-returns-then-is_flat_call
has_flat_calls-returns-then-is_flat_call t c =
    let p : has_flat_calls c.args.name.now (own_call c.args.name.now c.in-Call.f c.as_slice-arguments.result.now) ≡ true = search rules in
    c.have_flat_calls.ensures ∙ ap (λ b. b && each_flat c.args.name.now c.as_slice-arguments.result.now) (sym p)
    ∙ flat_calls_call c.args.name.now c.in-Call.f c.args.t.now c.in-Call.ts c.as_slice-arguments.result.now (seen c.t.view_is c.in-Call.is) c.as_slice-arguments.ensures

pub has_flat_calls-returns-else-is_flat_call : goal.has_flat_calls-returns-else-is_flat_call
has_flat_calls-returns-else-is_flat_call t c =
    let p : has_flat_calls c.args.name.now (own_call c.args.name.now c.in-Call.f c.as_slice-arguments.result.now) ≡ false = search rules in
    let r : c.is_flat_call.result ≡ false = search rules in
    r ∙ ap (λ b. b && each_flat c.args.name.now c.as_slice-arguments.result.now) (sym p)
    ∙ flat_calls_call c.args.name.now c.in-Call.f c.args.t.now c.in-Call.ts c.as_slice-arguments.result.now (seen c.t.view_is c.in-Call.is) c.as_slice-arguments.ensures

pub has_flat_calls-have_flat_calls-requires : goal.has_flat_calls-have_flat_calls-requires
has_flat_calls-have_flat_calls-requires t c = let d = deeper c.t.view_is c.in-Call.is c.as_slice-arguments.ensures in (omega (arith, c.decreases), tt)
