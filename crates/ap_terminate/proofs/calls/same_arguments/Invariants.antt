use Rattle.std.proofs.Common.{◌≡◌, length}
use Rattle.ap_world.specs.Recursion.{args_eq}
use Rattle.ap_terminate.proofs.calls.same_arguments.Given as goal

-- what is left decides
abbrev pub invariant-loop-left : goal.invariant-loop-left
invariant-loop-left l = args_eq l.left l.others ≡ args_eq l.a l.b

abbrev pub decreases-loop-left : goal.decreases-loop-left
decreases-loop-left l = length l.left
