use Rattle.ap_world.specs.Sound.{HasFunctions}
use Rattle.ap_world.specs.World.{function_of}
use Rattle.ap_tests_events.proofs.theories.all_events.Given as goal

-- the world keeps the functions of the ground world
abbrev pub invariant-loop-form : goal.invariant-loop-form
invariant-loop-form g l = HasFunctions (function_of l.w.entries)
