use Rattle.std.proofs.Common.{◌≡◌, None, ap, sym, rules}
use Rattle.ap_world.specs.Primitives.{prim_of}
use Rattle.ap_world.specs.World.{function_of}
use Rattle.ap_world.specs.Units.{calls_run}
use Rattle.ap_eval.specs.Machine.{point, ready}
use Rattle.ap_eval.proofs.Steps.{follows_same}
use Rattle.ap_eval.proofs.running.finish.Goals as goal

pub returns-in-None-clause-follows : goal.returns-in-None-clause-follows
returns-in-None-clause-follows c =
    let none : prim_of c.args.f.now ≡ None = search rules in
    follows_same (function_of c.args.w.now.entries) c.args.machine.frames _ _ c.enter_body.result
    (ap (λ o. point c.args.machine (ready (calls_run c.args.machine.depth (function_of c.args.w.now.entries)) c.args.call.now c.args.f.now o c.args.values c.args.machine.units)) (sym none)) c.enter_body.ensures.follows
