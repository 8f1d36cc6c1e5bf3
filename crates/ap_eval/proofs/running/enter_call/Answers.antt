use Rattle.std.proofs.Common.{◌≡◌, true, Some, map, ap, rules}
use Rattle.ap_world.specs.Primitives.{prim_of}
use Rattle.ap_world.specs.World.{function_of}
use Rattle.ap_world.specs.Units.{is_choice, run, head_run, calls_run}
use Rattle.ap_eval.specs.Answers.{assigned}
use Rattle.ap_eval.specs.Machine.{point, called}
use Rattle.ap_eval.proofs.Steps.{follows_same, choice_run, strict_run, function_run}
use Rattle.ap_eval.proofs.running.enter_call.Goals.{in_default-via-in-Some+else-is_if, in_default-via-in_default}
use Rattle.ap_eval.proofs.running.enter_call.Goals as goal

pub returns-in-Some-clause-follows : goal.returns-in-Some-clause-follows
returns-in-Some-clause-follows c =
    let some : prim_of c.args.f.now ≡ Some c.in-Some.p = search rules in
    let choice : is_choice c.in-Some.p ≡ true = search rules in
    follows_same (function_of c.args.w.now.entries) c.args.machine.frames _ _ c.enter_if.result
    (ap (point c.args.machine) (choice_run (calls_run c.args.machine.depth (function_of c.args.w.now.entries)) c.args.call.now c.args.f.now c.in-Some.p (map (run (calls_run c.args.machine.depth (function_of c.args.w.now.entries))) c.args.terms.now) (assigned c.args.machine.bindings) c.args.machine.units some choice)) c.enter_if.ensures.follows

pub returns-in_default-clause-follows : goal.returns-in_default-clause-follows
returns-in_default-clause-follows c =
    let same : called (calls_run c.args.machine.depth (function_of c.args.w.now.entries)) c.args.call.now c.args.f.now c.args.terms.now c.new.result (assigned c.args.machine.bindings) c.args.machine.units
    ≡ head_run (calls_run c.args.machine.depth (function_of c.args.w.now.entries)) c.args.call.now c.args.f.now (prim_of c.args.f.now) (map (run (calls_run c.args.machine.depth (function_of c.args.w.now.entries))) c.args.terms.now) (assigned c.args.machine.bindings) c.args.machine.units =
    elim c.in_default.branch [
      | in_default-via-in-Some+else-is_if w ↦ strict_run (calls_run c.args.machine.depth (function_of c.args.w.now.entries)) c.args.call.now c.args.f.now w.in-Some.p c.args.terms.now c.new.result (assigned c.args.machine.bindings) c.args.machine.units c.new.ensures (search rules) (search rules)
      | in_default-via-in_default w ↦ function_run (calls_run c.args.machine.depth (function_of c.args.w.now.entries)) c.args.call.now c.args.f.now c.args.terms.now c.new.result (assigned c.args.machine.bindings) c.args.machine.units c.new.ensures (search rules)
    ] in
    follows_same (function_of c.args.w.now.entries) c.args.machine.frames _ _ c.next_argument.result (ap (point c.args.machine) same) c.next_argument.ensures.follows
