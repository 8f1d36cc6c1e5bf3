use Rattle.std.proofs.Common.{◌≡◌, take}
use Rattle.ap_kernel.proofs.assuming.copy_facts.Given as goal

abbrev pub invariant-loop-t : goal.invariant-loop-t
invariant-loop-t l = l.out ≡ take l.t-index l.facts
