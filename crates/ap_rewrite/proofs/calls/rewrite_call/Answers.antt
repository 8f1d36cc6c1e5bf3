use Rattle.std.proofs.Common.{◌≡◌, true, unwrap_or, sym, ap, ◌∙◌, subst}
use Rattle.ap_term.specs.declared.term.Term.{Term, Call}
use Rattle.ap_term.proofs.Seen.{seen}
use Rattle.ap_world.specs.Sound.{known}
use Rattle.ap_rewrite.specs.Answering.{defs_in, where_applied, setting_of, inner_of, seen_at, right_of}
use Rattle.ap_rewrite.proofs.Froms.{call_parts, from_own, from_at, followed_from, right_known}
use Rattle.ap_rewrite.proofs.Called.{call_is, call_out, arguments_out, head_takes, each_from, seen_as_call}
use Rattle.ap_rewrite.proofs.calls.rewrite_call.Goals as goal

pub rewrite_args-requires-clause-terms : goal.rewrite_args-requires-clause-terms
rewrite_args-requires-clause-terms g c = call_parts (defs_in c.args.l.now.r.now) c.args.f.now c.args.us.now c.requires.call

pub on_arguments-requires-clause-term : goal.on_arguments-requires-clause-term
on_arguments-requires-clause-term g c = subst (λ (u : Term). known (defs_in c.args.l.now.r.now) u ≡ true) (sym c.requires.term) c.requires.call

pub on_arguments-requires-clause-call : goal.on_arguments-requires-clause-call
on_arguments-requires-clause-call g c =
    let h = rw c.in-Some.is at c.in_ok-args.ensures.from in
    c.requires.term ∙ ap (Call c.args.f.now) (sym h.0)

pub on_arguments-requires-clause-head : goal.on_arguments-requires-clause-head
on_arguments-requires-clause-head g c =
    let h = rw c.in-Some.is at c.in_ok-args.ensures.from in
    head_takes (defs_in c.args.l.now.r.now) c.args.f.now c.args.us.now c.in-Some.args c.requires.call h.0

pub on_arguments-requires-clause-args : goal.on_arguments-requires-clause-args
on_arguments-requires-clause-args g c = (rw c.in-Some.is at c.in_ok-args.ensures.from).1

pub tried-requires-clause-term : goal.tried-requires-clause-term
tried-requires-clause-term g c =
    subst (λ (u : Term). known (defs_in c.args.l.now.r.now) u ≡ true) (sym c.rhs-call.ensures) (right_known _ _ _ _ _ c.in_ok-first.ensures.from)

pub tried-requires-clause-call : goal.tried-requires-clause-call
tried-requires-clause-call g c = (seen c.call.view_is c.in-Call.is) ∙ ap (Call c.in-Call.g) (sym c.as_slice.ensures)

pub unreachable-requires : goal.unreachable-requires
unreachable-requires g c = seen_as_call _ _ _ (c.call.view_is ∙ c.rhs-call.ensures ∙ c.in_ok-first.ensures.is) c.in_default-shape.not-Call

pub followed-requires-clause-first : goal.followed-requires-clause-first
followed-requires-clause-first g c = from_own _ _ _ _ _ c.in_ok-first.ensures.from

pub followed-requires-clause-second : goal.followed-requires-clause-second
followed-requires-clause-second g c = each_from _ _ _ _ _ _ c.rhs-call.ensures (rw c.in-Some-2.is at c.in_ok-found.ensures.from)

pub returns-in_default-clause-is : goal.returns-in_default-clause-is
returns-in_default-clause-is g c =
    arguments_out (setting_of c.args.l.now.r.now) (inner_of c.args.l.now.r.now c.args.l.now.levels) c.args.mode (seen_at c.args.at.now) c.args.f.now c.args.us.now _ (rw c.in_default.is at c.in_ok-args.ensures.is)

pub returns-in_default-2-clause-is : goal.returns-in_default-2-clause-is
returns-in_default-2-clause-is g c =
    let head = sym ((seen c.call.view_is c.in-Call.is) ∙ ap (Call c.in-Call.g) (sym c.as_slice.ensures)) ∙ c.rhs-call.ensures ∙ c.in_ok-first.ensures.is in
    call_out (setting_of c.args.l.now.r.now) (inner_of c.args.l.now.r.now c.args.l.now.levels) c.args.mode (seen_at c.args.at.now) c.args.f.now c.args.us.now _ _ _ (rw c.in-Some.is at c.in_ok-args.ensures.is) _ _ head
    (rw c.in_default-2.is at c.in_ok-found.ensures.is)

pub returns-clause-is : goal.returns-clause-is
returns-clause-is g c =
    let head = sym ((seen c.call.view_is c.in-Call.is) ∙ ap (Call c.in-Call.g) (sym c.as_slice.ensures)) ∙ c.rhs-call.ensures ∙ c.in_ok-first.ensures.is in
    call_is (setting_of c.args.l.now.r.now) (inner_of c.args.l.now.r.now c.args.l.now.levels) c.args.mode (seen_at c.args.at.now) c.args.f.now c.args.us.now _ _ _ (rw c.in-Some.is at c.in_ok-args.ensures.is) _ _ head
    _ _ _ (rw c.in-Some-2.is at c.in_ok-found.ensures.is) (c.in_ok-q.ensures.is ∙ ap (unwrap_or (right_of (where_applied c.in-Some-2.found))) c.in_ok-first.ensures.is)

pub returns-clause-from : goal.returns-clause-from
returns-clause-from g c =
    let h = rw c.in-Some.is at c.in_ok-args.ensures.from in
    followed_from _ _ _ _ _ _ (from_at _ _ _ _ _ _ (ap (Call c.args.f.now) h.0) c.in_ok-first.ensures.from) c.in_ok-q.ensures.from
