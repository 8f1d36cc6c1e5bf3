use Rattle.std.proofs.Common.{◌≡◌, None, map, sym, rules, arith, ◌∙◌}
use Rattle.ap_term.specs.declared.term.Term.{Var, Quote}
use Rattle.ap_term.proofs.Seen.{seen}
use Rattle.ap_world.specs.Typing.{types_by, if_parts, call_types}
use Rattle.ap_types.specs.Scopes.{in_scope}
use Rattle.ap_types.specs.Settings.{types_in}
use Rattle.ap_types.proofs.Formed.{item_size, call_size, types_var, types_quote, call_cut, head_other}
use Rattle.ap_types.proofs.typing.+typing.Goals as goal

pub form_types-returns-in-Var-clause-is : goal.form_types-returns-in-Var-clause-is
form_types-returns-in-Var-clause-is t c =
    let e : c.args.t.now ≡ Var c.in-Var.field-0 = (seen c.t.view_is c.in-Var.is) in
    rw e (sym (types_var (types_in c.args.s.now.w.now c.args.s.now.own) c.in-Var.field-0 (in_scope c.args.s.now.base c.args.scopes.now)))

pub form_types-returns-in-Quote-clause-is : goal.form_types-returns-in-Quote-clause-is
form_types-returns-in-Quote-clause-is t c =
    let e : c.args.t.now ≡ Quote c.in-Quote.v = (seen c.t.view_is c.in-Quote.is) in
    rw (e, c.bit.ensures, c.kind_of.ensures) (sym (types_quote (types_in c.args.s.now.w.now c.args.s.now.own) c.in-Quote.v (in_scope c.args.s.now.base c.args.scopes.now)))

pub form_types-returns-in-Call-clause-is : goal.form_types-returns-in-Call-clause-is
form_types-returns-in-Call-clause-is t c =
    call_cut (types_in c.args.s.now.w.now c.args.s.now.own) c.head_types.result c.args.t.now c.in-Call.f c.in-Call.ts (in_scope c.args.s.now.base c.args.scopes.now) (seen c.t.view_is c.in-Call.is)
    (rw (← c.as_slice.ensures) c.head_types.ensures.is)

pub other_call-returns-in_ok-masks-in-None-clause-is : goal.other_call-returns-in_ok-masks-in-None-clause-is
other_call-returns-in_ok-masks-in-None-clause-is t c =
    let K = types_in c.args.s.now.w.now c.args.s.now.own in
    let f = c.args.f.now in
    let ts = c.args.ts.now in
    let fs = in_scope c.args.s.now.base c.args.scopes.now in
    let p = c.args.p in
    let none : if_parts p ts ≡ None = search rules in
    let is : c.call_types.result ≡ call_types K f p ts (map (λ u. types_by K u fs) ts) = search rules in
    is ∙ sym (head_other K f p ts fs none)

pub masks_of-types_at-requires : goal.masks_of-types_at-requires
masks_of-types_at-requires t c =
    let le = item_size c.args.ts.now c.loop-t.t-index c.t-item.result c.loop-t-test.true c.t-item.is in
    omega arith

pub form_types-head_types-requires : goal.form_types-head_types-requires
form_types-head_types-requires t c =
    let e = call_size c.args.t.now c.in-Call.f c.in-Call.ts c.as_slice.result.now (seen c.t.view_is c.in-Call.is) c.as_slice.ensures in
    omega arith
