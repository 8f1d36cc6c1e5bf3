use Rattle.std.proofs.Common.{◌≡◌, take}
use Rattle.ap_kernel.proofs.derivations.copy_subst.Given as goal

-- the pairs so far are copied
abbrev pub invariant-loop-x : goal.invariant-loop-x
invariant-loop-x l = l.out ≡ take l.x-index l.s.0
