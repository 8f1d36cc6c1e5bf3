use Rattle.std.proofs.Common.{◌≡◌, Some, length, refl, rules}
use Rattle.ap_world.specs.World.{function_of}
use Rattle.ap_eval.specs.Answers.{assigned}
use Rattle.ap_eval.proofs.Steps.{body_step}
use Rattle.ap_eval.proofs.running.enter_body.Goals as goal

pub returns-in-Some-clause-follows : goal.returns-in-Some-clause-follows
returns-in-Some-clause-follows c =
    let defined : function_of c.args.w.now.entries c.args.f.now ≡ Some c.in-Some.function.now = search rules in
    let fits : length c.in-Some.function.now.formals ≡ length c.args.values = search rules in
    body_step (function_of c.args.w.now.entries) c.args.machine.frames c.push.new.self _ c.args.f.now c.in-Some.function.now c.as_slice.result.now c.args.values (assigned c.args.machine.bindings) c.args.machine.depth c.args.machine.units
    c.in_ok-push-in-Some.ensures.ok c.if-depth-eq0.false defined c.as_slice.ensures fits refl
