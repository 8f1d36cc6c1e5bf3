use Rattle.std.proofs.Common.{◌≡◌}
use Rattle.ap_world.specs.World.{function_of}
use Rattle.ap_eval.specs.Machine.{whole, weight}
use Rattle.ap_eval.proofs.running.run_state.Given as goal

-- each state stands for the same whole
abbrev pub invariant-loop-t : goal.invariant-loop-t
invariant-loop-t l = whole (function_of l.w.entries) l.state ≡ whole (function_of l.w.entries) l.initial.state

abbrev pub decreases-loop-t : goal.decreases-loop-t
decreases-loop-t l = weight l.state
