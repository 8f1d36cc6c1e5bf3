use Rattle.std.proofs.Common.{◌≡◌, take}
use Rattle.ap_world.proofs.entry.copy_calls.Given as goal

-- what stands so far is copied
abbrev pub invariant-loop-arguments : goal.invariant-loop-arguments
invariant-loop-arguments l = l.out ≡ take l.arguments-index l.calls
