use Rattle.std.proofs.Common.{◌≡◌, ◌+◌, ◌≤◌, drop, map}
use Rattle.ap_kernel.specs.Induction.{count_true, occurs}
use Rattle.ap_kernel.proofs.places.is_in_one.Given as goal

-- those so far and those of the rest are all
abbrev pub invariant-loop-t : goal.invariant-loop-t
invariant-loop-t l = (l.count + count_true (map (occurs l.x) (drop l.t-index l.terms)) ≡ count_true (map (occurs l.x) l.terms)) × (l.count ≤ l.t-index)
