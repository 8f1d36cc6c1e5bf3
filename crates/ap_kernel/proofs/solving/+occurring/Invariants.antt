use Rattle.std.proofs.Common.{◌≡◌, drop, map}
use Rattle.ap_kernel.specs.Solving.{any_true, occurs}
use Rattle.ap_kernel.proofs.solving.+occurring.Given as goal

abbrev pub invariant-occurs_in-loop-t : goal.invariant-occurs_in-loop-t
invariant-occurs_in-loop-t l = any_true (map (occurs l.x) (drop l.t-index l.ts)) ≡ any_true (map (occurs l.x) l.ts)
