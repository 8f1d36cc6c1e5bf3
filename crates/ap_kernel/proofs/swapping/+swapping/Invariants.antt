use Rattle.std.proofs.Common.{◌≡◌, ◌++◌, drop, map}
use Rattle.ap_kernel.specs.Swapping.{swapped}
use Rattle.ap_kernel.proofs.swapping.+swapping.Given as goal

-- what is made, and what will be of the rest
abbrev pub invariant-swapped_all-loop-t : goal.invariant-swapped_all-loop-t
invariant-swapped_all-loop-t l = l.out ++ map (swapped l.pairs) (drop l.t-index l.ts) ≡ map (swapped l.pairs) l.ts
