use Rattle.std.proofs.Common.{◌≡◌, ◌++◌, drop}
use Rattle.ap_kernel.specs.Induction.{pairs_of}
use Rattle.ap_kernel.proofs.induction.pairs_of.Given as goal

-- what is made, and what will be of the rest
abbrev pub invariant-loop-place : goal.invariant-loop-place
invariant-loop-place l = l.out ++ pairs_of (drop l.place-index l.places) ≡ pairs_of l.places
