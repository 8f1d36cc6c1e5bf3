-- What the machine's state stands for: the value that runs, through the frames that await it.
use Rattle.std.specs.Prelude.{◌≡◌, ℕ, ◌+◌, ◌*◌, Result, Ok, Err, cond, List, [], ◌∷◌, ◌++◌, map, length, Option, Some, None}
use Rattle.ap_value.specs.declared.symbol.Symbol.{Symbol}
use Rattle.ap_value.specs.declared.value.Value.{Value}
use Rattle.ap_value.specs.Values.{val_of, value_eq}
use Rattle.ap_term.specs.declared.term.Term.{Term}
use Rattle.ap_world.specs.declared.primitive.Primitive.{Primitive}
use Rattle.ap_world.specs.Primitives.{nil, prim_of}
use Rattle.ap_world.specs.Meaning.{Defs}
use Rattle.ap_world.specs.Units.{Outcome, gives, after, Assigned, prim_value, Runs, in_order, settled, run, calls_run}
use Rattle.ap_eval.specs.declared.stop.EvalStop.{EvalStop}
use Rattle.ap_eval.specs.declared.machine.Frame.{Frame}
use Rattle.ap_eval.specs.declared.machine.Frame.TheVariants as frame
use Rattle.ap_eval.specs.declared.machine.Task.{Task}
use Rattle.ap_eval.specs.declared.machine.Task.TheVariants as task
use Rattle.ap_eval.specs.declared.machine.Machine.{Machine}
use Rattle.ap_eval.specs.declared.machine.State.{State}
use Rattle.ap_eval.specs.Answers.{Stopped, assigned}

-- an assignment, how deep calls may be nested, and what runs under them
pub record Point : Type 0 where
  pub variables : Assigned
  pub depth : ℕ
  pub outcome : Outcome Value

-- a call whose arguments have their values
abbrev pub ready : Runs → Term → Symbol → Option Primitive → List Value → ℕ → Outcome Value
ready c t f (Some p) vs n = settled t vs (prim_value p vs) n
ready c t f None vs n = c f vs n

-- the branch of a test's value
abbrev pub branched : Runs → Term → Term → Assigned → Value → ℕ → Outcome Value
branched c on off e v k = cond (value_eq (val_of v) nil) (run c off e k) (run c on e k)

-- a call with the values of its first arguments, the other ones being taken in order
abbrev pub called : Runs → Term → Symbol → List Term → List Value → Assigned → ℕ → Outcome Value
called c t f ts vs e n = after (in_order (map (run c) ts) e n) (λ ws k. ready c t f (prim_of f) (vs ++ ws) k)

abbrev pub called_with : Runs → Term → Symbol → List Term → List Value → Assigned → Value → ℕ → Outcome Value
called_with c t f ts vs e v j = called c t f ts (vs ++ v ∷ []) e j

-- what a frame makes of what it awaits
abbrev pub through : Defs → Frame → Point → Point
through D (frame.Test on off) p = record p { outcome = after p.outcome (branched (calls_run p.depth D) on.now off.now p.variables) }
through D (frame.Argument call head rest values) p = record p { outcome = after p.outcome (called_with (calls_run p.depth D) call.now head.now rest.now values p.variables) }
through D (frame.Body bindings depth) p = record { variables = assigned bindings; depth = depth; outcome = p.outcome }

-- through all frames, of which the first is the outermost
abbrev pub resumed : Defs → List Frame → Point → Point
resumed D [] p = p
resumed D (f ∷ fs) p = through D f (resumed D fs p)

-- where a machine stands, when this runs in it
abbrev pub point : Machine → Outcome Value → Point
point m o = record { variables = assigned m.bindings; depth = m.depth; outcome = o }

abbrev pub task_outcome : Defs → Machine → Task → Outcome Value
task_outcome D m (task.Run t) = run (calls_run m.depth D) t.now (assigned m.bindings) m.units
task_outcome D m (task.Back v) = gives v m.units

-- what the whole gives
abbrev pub whole : Defs → State → Outcome Value
whole D s = (resumed D s.machine.frames (point s.machine (task_outcome D s.machine s.task))).outcome

-- the next state stands for these frames at this point; a stop is the point's
abbrev pub Follows : Defs → List Frame → Point → Result State EvalStop → Type 0
Follows D fs p (Ok s) = whole D s ≡ (resumed D fs p).outcome
Follows D fs p (Err e) = Stopped e p.outcome

-- what is left to do
abbrev pub task_weight : Task → ℕ
task_weight (task.Run t) = 0
task_weight (task.Back v) = 1

abbrev pub weight : State → ℕ
weight s = 3 * s.machine.units + (length s.machine.frames + task_weight s.task)
