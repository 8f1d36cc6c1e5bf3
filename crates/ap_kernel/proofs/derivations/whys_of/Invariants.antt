use Rattle.std.proofs.Common.{◌≡◌, ◌++◌, map, drop}
use Rattle.ap_kernel.specs.Deriving.{why_of}
use Rattle.ap_kernel.proofs.derivations.whys_of.Given as goal

-- what is made, and what will be of the rest
abbrev pub invariant-loop-q : goal.invariant-loop-q
invariant-loop-q l = l.out ++ map why_of (drop l.q-index l.list) ≡ map why_of l.list
