-- How the evaluator's answers stand for what running gives.
use Rattle.std.specs.Prelude.{◌≡◌, ℕ, Result, Ok, Err, zip}
use Rattle.ap_world.specs.Units.{Outcome, gives, wide, spent, large, Assigned}
use Rattle.ap_eval.specs.declared.stop.EvalStop.{EvalStop}
use Rattle.ap_eval.specs.declared.stop.EvalStop.TheVariants as stop
use Rattle.ap_eval.specs.declared.bindings.Bindings.{Bindings}
use Rattle.ap_eval.specs.declared.bindings.Bindings.TheVariants.{Given, Bound}

-- running stopped for this reason; of want of memory nothing is said
abbrev pub Stopped : {A : Type 0} → EvalStop → Outcome A → Type 0
Stopped (stop.Wide call values) o = o ≡ wide call values
Stopped stop.Spent o = o ≡ spent
Stopped stop.Large o = o ≡ large
Stopped stop.NoMemory o = Unit {0}

-- the answer, with so many units left, is what running gives
abbrev pub Answers : {A : Type 0} → Result A EvalStop → ℕ → Outcome A → Type 0
Answers (Ok a) n o = o ≡ gives a n
Answers (Err e) n o = Stopped e o

-- the assignment that variables are bound by
abbrev pub assigned : Bindings → Assigned
assigned (Given e) = e.now.0
assigned (Bound names values) = zip names.now values
