use Rattle.std.proofs.Common.{◌≡◌, ◌++◌, ◌∷◌, [], rules}
use Rattle.ap_world.specs.World.{function_of}
use Rattle.ap_eval.specs.Answers.{Stopped}
use Rattle.ap_eval.specs.Machine.{whole}
use Rattle.ap_eval.proofs.Steps.{run_stops, back_stops, back_goes}
use Rattle.ap_eval.proofs.running.run_state.Goals as goal

pub returns-in_err-state-in-Run : goal.returns-in_err-state-in-Run
returns-in_err-state-in-Run c =
    let stop : Stopped c.in_err-state-in-Run.field-0.0 (whole (function_of c.args.w.now.entries) c.args.start) =
    run_stops (function_of c.args.w.now.entries) c.loop-t.state _ c.in_err-state-in-Run.field-0.0 _ c.in-Run.is c.in_err-state-in-Run.ensures.follows c.loop-t.invariant in
    (0, search (rules, stop))

pub returns-in_err-state-in-Some : goal.returns-in_err-state-in-Some
returns-in_err-state-in-Some c =
    let last : c.loop-t.state.machine.frames ≡ c.pop.new.self ++ c.in-Some.frame ∷ [] = search rules in
    let stop : Stopped c.in_err-state-in-Some.field-0.0 (whole (function_of c.args.w.now.entries) c.args.start) =
    back_stops (function_of c.args.w.now.entries) c.loop-t.state c.in-Back.value c.in-Some.frame c.pop.new.self c.in_err-state-in-Some.field-0.0 _ c.in-Back.is last c.in_err-state-in-Some.ensures.follows c.loop-t.invariant in
    (0, search (rules, stop))

pub loop-t-preserved : goal.loop-t-preserved
loop-t-preserved c =
    let last : c.loop-t.state.machine.frames ≡ c.pop.new.self ++ c.in-Some.frame ∷ [] = search rules in
    back_goes (function_of c.args.w.now.entries) c.loop-t.state c.in_ok-state-in-Some.state c.in-Back.value c.in-Some.frame c.pop.new.self _ c.in-Back.is last c.in_ok-state-in-Some.ensures.follows c.loop-t.invariant
