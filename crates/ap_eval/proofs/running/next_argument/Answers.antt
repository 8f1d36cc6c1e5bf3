use Rattle.std.proofs.Common.{◌-◌, ◌<◌, length, drop, take, refl, rules}
use Rattle.ap_world.specs.World.{function_of}
use Rattle.ap_eval.specs.Answers.{assigned}
use Rattle.ap_eval.proofs.Binding.{first_and_rest}
use Rattle.ap_eval.proofs.Steps.{argument_step}
use Rattle.ap_eval.proofs.running.next_argument.Goals as goal

pub returns-in_ok-push-in-len1-up-clause-follows : goal.returns-in_ok-push-in-len1-up-clause-follows
returns-in_ok-push-in-len1-up-clause-follows c =
    let some : 0 < length c.args.terms.now = search rules in
    argument_step (function_of c.args.w.now.entries) c.args.machine.frames c.push.new.self _ c.args.call.now c.args.f.now c.first-item.result (take (length c.args.terms.now - 1) (drop 1 c.args.terms.now)) c.args.terms.now c.args.values (assigned c.args.machine.bindings) c.args.machine.depth c.args.machine.units
    c.in_ok-push-in-len1-up.ensures.ok (first_and_rest c.args.terms.now c.first-item.result some c.first-item.is) refl
