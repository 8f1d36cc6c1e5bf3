use Rattle.std.proofs.Common.{◌≡◌, ◌∙◌, ◌∷◌, ◌++◌, [], cond, refl, ap, sym, rules}
use Rattle.ap_world.specs.World.{function_of}
use Rattle.ap_world.specs.Units.{gives, calls_run}
use Rattle.ap_eval.specs.Answers.{assigned}
use Rattle.ap_eval.specs.Machine.{point, called, through, resumed}
use Rattle.ap_eval.proofs.Steps.{follows_same, branch_run}
use Rattle.ap_eval.proofs.running.go_on.Goals.{then-is_nil, else-is_nil}
use Rattle.ap_eval.proofs.running.go_on.Goals as goal

pub returns-in-Argument-clause-follows : goal.returns-in-Argument-clause-follows
returns-in-Argument-clause-follows c =
    let more : c.push.new.self ≡ c.in-Argument.values ++ c.args.value ∷ [] = search rules in
    follows_same (function_of c.args.w.now.entries) c.args.machine.frames _ _ c.next_argument.result
    (ap (λ vs. point c.args.machine (called (calls_run c.args.machine.depth (function_of c.args.w.now.entries)) c.in-Argument.call.now c.in-Argument.f.now c.in-Argument.rest.now vs (assigned c.args.machine.bindings) c.args.machine.units)) more
    ∙ ap (λ f. through (function_of c.args.w.now.entries) f (point c.args.machine (gives c.args.value c.args.machine.units))) (sym c.in-Argument.is)) c.next_argument.ensures.follows

pub returns-in-Test-clause-follows : goal.returns-in-Test-clause-follows
returns-in-Test-clause-follows c =
    let chosen : c.if-is_nil.branch'.now ≡ cond c.is_nil.result c.in-Test.no.now c.in-Test.yes.now =
    elim c.if-is_nil.branch [
      | then-is_nil w ↦ rw (w.branch'-is, w.if-is_nil.true) refl
      | else-is_nil w ↦ rw (w.branch'-is, w.if-is_nil.false) refl
    ] in
    ap (λ o. (resumed (function_of c.args.w.now.entries) c.args.machine.frames (point c.args.machine o)).outcome)
    (branch_run (calls_run c.args.machine.depth (function_of c.args.w.now.entries)) c.in-Test.yes.now c.in-Test.no.now c.if-is_nil.branch'.now (assigned c.args.machine.bindings) c.args.value c.args.machine.units c.is_nil.result c.is_nil.ensures chosen)
    ∙ ap (λ f. (resumed (function_of c.args.w.now.entries) c.args.machine.frames (through (function_of c.args.w.now.entries) f (point c.args.machine (gives c.args.value c.args.machine.units)))).outcome) (sym c.in-Test.is)
