use Rattle.std.proofs.Common.{◌≡◌, ◌++◌, drop, map}
use Rattle.ap_kernel.specs.Tidying.{plain, kept, tidied}
use Rattle.ap_kernel.proofs.tidying.tidied.Given as goal

-- what is kept, and what will be of the rest
abbrev pub invariant-loop-t : goal.invariant-loop-t
invariant-loop-t l = l.out ++ kept l.out (map plain (drop l.t-index l.terms)) ≡ tidied l.terms
