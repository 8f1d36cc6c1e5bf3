use Rattle.std.proofs.Common.{◌++◌, arith}
use Rattle.std.proofs.lemmas.Result.{IfOk-equal}
use Rattle.ap_term.proofs.Seen.{seen, deeper}
use Rattle.ap_induct.specs.Choosing.{calls_of, calls_among}
use Rattle.ap_induct.proofs.Leading.{calls_pushed, no_calls_var, no_calls_quote}
use Rattle.ap_induct.proofs.choosing.+calls.Goals as goal

pub push_calls-returns-in_ok-push-in-Call : goal.push_calls-returns-in_ok-push-in-Call
push_calls-returns-in_ok-push-in-Call t c =
    IfOk-equal c.push_all_calls.result c.push_all_calls.new.out (c.push.new.self ++ calls_among c.as_slice.result.now) (c.args.out.now ++ calls_of c.args.t.now) c.push_all_calls.ensures
    (calls_pushed c.in-Call.field-0 c.in-Call.ts c.as_slice.result.now c.args.t.now c.in_ok-copy_term-in-Call.field-0 c.args.out.now c.push.new.self (seen c.t.view_is c.in-Call.is) c.as_slice.ensures
    c.in_ok-copy_term-in-Call.ensures c.in_ok-push-in-Call.ensures.ok)

pub push_calls-returns-in-Var : goal.push_calls-returns-in-Var
push_calls-returns-in-Var t c = no_calls_var c.args.t.now c.in-Var.field-0 c.args.out.now (seen c.t.view_is c.in-Var.is)

pub push_calls-returns-in-Quote : goal.push_calls-returns-in-Quote
push_calls-returns-in-Quote t c = no_calls_quote c.args.t.now c.in-Quote.field-0 c.args.out.now (seen c.t.view_is c.in-Quote.is)

pub push_calls-push_all_calls-requires : goal.push_calls-push_all_calls-requires
push_calls-push_all_calls-requires t c = let d = deeper c.t.view_is c.in-Call.is c.as_slice.ensures in (omega (arith, c.decreases), tt)
