use Rattle.std.proofs.Common.{◌∙◌, ◌-◌, map, ap, sym}
use Rattle.ap_term.proofs.Seen.{seen}
use Rattle.ap_world.specs.Primitives.{prim_of}
use Rattle.ap_world.specs.World.{function_of}
use Rattle.ap_world.specs.Units.{run, head_run, calls_run}
use Rattle.ap_eval.specs.Answers.{assigned}
use Rattle.ap_eval.specs.Machine.{point}
use Rattle.ap_eval.proofs.Runs.{run_var, run_quote, run_entered, run_spent}
use Rattle.ap_eval.proofs.Steps.{follows_same}
use Rattle.ap_eval.proofs.running.enter.Goals as goal

pub returns-in-Var-clause-follows : goal.returns-in-Var-clause-follows
returns-in-Var-clause-follows c = follows_same (function_of c.args.w.now.entries) c.args.machine.frames _ _ c.enter_variable.result
    (ap (point c.args.machine) (sym (ap (λ u. run (calls_run c.args.machine.depth (function_of c.args.w.now.entries)) u (assigned c.args.machine.bindings) c.args.machine.units) (seen c.t.view_is c.in-Var.is) ∙ run_var (calls_run c.args.machine.depth (function_of c.args.w.now.entries)) c.in-Var.x (assigned c.args.machine.bindings) c.args.machine.units))) c.enter_variable.ensures.follows

pub returns-in-Quote-clause-follows : goal.returns-in-Quote-clause-follows
returns-in-Quote-clause-follows c = follows_same (function_of c.args.w.now.entries) c.args.machine.frames _ _ c.enter_constant.result
    (ap (point c.args.machine) (sym (ap (λ u. run (calls_run c.args.machine.depth (function_of c.args.w.now.entries)) u (assigned c.args.machine.bindings) c.args.machine.units) (seen c.t.view_is c.in-Quote.is) ∙ run_quote (calls_run c.args.machine.depth (function_of c.args.w.now.entries)) c.in-Quote.v (assigned c.args.machine.bindings) c.args.machine.units))) c.enter_constant.ensures.follows

pub returns-then-machine-eq0-clause-follows : goal.returns-then-machine-eq0-clause-follows
returns-then-machine-eq0-clause-follows c = run_spent (calls_run c.args.machine.depth (function_of c.args.w.now.entries)) c.args.t.now c.in-Call.f c.in-Call.terms (assigned c.args.machine.bindings) c.args.machine.units (seen c.t.view_is c.in-Call.is) c.if-machine-eq0.true

pub returns-else-machine-eq0-clause-follows : goal.returns-else-machine-eq0-clause-follows
returns-else-machine-eq0-clause-follows c = follows_same (function_of c.args.w.now.entries) c.args.machine.frames _ _ c.enter_call.result
    (ap (λ ts. point c.args.machine (head_run (calls_run c.args.machine.depth (function_of c.args.w.now.entries)) c.args.t.now c.in-Call.f (prim_of c.in-Call.f) (map (run (calls_run c.args.machine.depth (function_of c.args.w.now.entries))) ts) (assigned c.args.machine.bindings) (c.args.machine.units - 1))) c.as_slice.ensures
    ∙ ap (point c.args.machine) (run_entered (calls_run c.args.machine.depth (function_of c.args.w.now.entries)) c.args.t.now c.in-Call.f c.in-Call.terms (assigned c.args.machine.bindings) c.args.machine.units (seen c.t.view_is c.in-Call.is) c.if-machine-eq0.false)) c.enter_call.ensures.follows
