use Rattle.std.proofs.Common.{◌≡◌, ◌+◌, [], ◌∷◌, map, ap, sym, ◌∙◌, drop, rules, arith}
use Rattle.std.proofs.lemmas.List.{drop_all}
use Rattle.ap_list.specs.Lists.{joined}
use Rattle.ap_term.proofs.Seen.{seen, deeper}
use Rattle.ap_world.specs.Recursion.{calls_in, own_call}
use Rattle.ap_terminate.specs.Distinct.{with_distinct}
use Rattle.ap_terminate.proofs.Calling.{distinct_var, distinct_quote, distinct_call, from_item, none_distinct, more_distinct}
use Rattle.ap_terminate.proofs.calls.+gathering.Goals as goal

pub push_calls-returns-in-Var : goal.push_calls-returns-in-Var
push_calls-returns-in-Var t c = distinct_var c.args.name.now c.in-Var.field-0 c.args.t.now c.args.out.now (seen c.t.view_is c.in-Var.is)

pub push_calls-returns-in-Quote : goal.push_calls-returns-in-Quote
push_calls-returns-in-Quote t c = distinct_quote c.args.name.now c.in-Quote.field-0 c.args.t.now c.args.out.now (seen c.t.view_is c.in-Quote.is)

pub push_calls-returns-in_ok-push_own-in-Call : goal.push_calls-returns-in_ok-push_own-in-Call
push_calls-returns-in_ok-push_own-in-Call t c =
    let first : c.push_own.new.out ≡ with_distinct c.args.out.now (own_call c.args.name.now c.in-Call.f c.as_slice-arguments.result.now) = search rules in
    let e : with_distinct c.args.out.now (calls_in c.args.name.now c.args.t.now) ≡ with_distinct c.push_own.new.out (joined (map (calls_in c.args.name.now) c.as_slice-arguments.result.now)) =
    sym (distinct_call c.args.name.now c.in-Call.f c.args.t.now c.in-Call.ts c.as_slice-arguments.result.now c.args.out.now (seen c.t.view_is c.in-Call.is) c.as_slice-arguments.ensures)
    ∙ ap (λ s. with_distinct s (joined (map (calls_in c.args.name.now) c.as_slice-arguments.result.now))) (sym first) in
    rw e c.push_all_calls.ensures

pub push_all_calls-loop-t-preserved : goal.push_all_calls-loop-t-preserved
push_all_calls-loop-t-preserved t c =
    let rest = drop (c.loop-t.t-index + 1) c.args.ts.now in
    let e : drop c.loop-t.t-index c.args.ts.now ≡ c.t-item.result ∷ rest = from_item c.args.ts.now c.loop-t.t-index c.t-item.result (omega arith) c.t-item.is in
    let first : c.push_calls.new.out ≡ with_distinct c.loop-t.out (calls_in c.args.name.now c.t-item.result) = search rules in
    ap (λ s. with_distinct s (joined (map (calls_in c.args.name.now) rest))) first
    ∙ sym (more_distinct c.loop-t.out (calls_in c.args.name.now c.t-item.result) (joined (map (calls_in c.args.name.now) rest)))
    ∙ ap (λ us. with_distinct c.loop-t.out (joined (map (calls_in c.args.name.now) us))) (sym e)
    ∙ c.loop-t.invariant

pub push_all_calls-returns : goal.push_all_calls-returns
push_all_calls-returns t c =
    let e : drop c.loop-t.t-index c.args.ts.now ≡ [] = drop_all c.loop-t.t-index c.args.ts.now (omega arith) in
    sym (none_distinct c.loop-t.out) ∙ ap (λ us. with_distinct c.loop-t.out (joined (map (calls_in c.args.name.now) us))) (sym e) ∙ c.loop-t.invariant

pub push_calls-push_all_calls-requires : goal.push_calls-push_all_calls-requires
push_calls-push_all_calls-requires t c = let d = deeper c.t.view_is c.in-Call.is c.as_slice-arguments.ensures in (omega (arith, c.decreases), tt)
