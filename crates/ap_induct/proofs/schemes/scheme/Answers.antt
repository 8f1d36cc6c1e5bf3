use Rattle.std.specs.Option.{option_copied}
use Rattle.ap_term.proofs.Seen.{seen}
use Rattle.ap_world.specs.World.{function_of}
use Rattle.ap_induct.proofs.Leading.{IsChosen, chosen_asks}
use Rattle.ap_induct.proofs.schemes.scheme.Goals as goal

pub induct-requires-clause-call : goal.induct-requires-clause-call
induct-requires-clause-call c =
    (chosen_asks (function_of c.args.w.now.entries) c.args.theory.now c.args.c.now (option_copied c.args.hint) c.in-Call.f c.in-Call.actuals c.as_slice-3.result.now c.as_slice.result.now
    c.in_ok-call.field-0 c.in-Some.call c.as_slice.ensures c.in_ok-call.ensures c.in-Some.is (seen c.call.view_is c.in-Call.is) c.as_slice-3.ensures c.requires.clause c.requires.hint).call

pub induct-requires-clause-candidate : goal.induct-requires-clause-candidate
induct-requires-clause-candidate c =
    (chosen_asks (function_of c.args.w.now.entries) c.args.theory.now c.args.c.now (option_copied c.args.hint) c.in-Call.f c.in-Call.actuals c.as_slice-3.result.now c.as_slice.result.now
    c.in_ok-call.field-0 c.in-Some.call c.as_slice.ensures c.in_ok-call.ensures c.in-Some.is (seen c.call.view_is c.in-Call.is) c.as_slice-3.ensures c.requires.clause c.requires.hint).leads
