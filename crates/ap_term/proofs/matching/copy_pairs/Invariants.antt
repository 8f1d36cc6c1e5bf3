use Rattle.std.proofs.Common.{◌≡◌, take}
use Rattle.ap_term.proofs.matching.copy_pairs.Given as goal

-- the pairs so far are copied
abbrev pub invariant-loop-x : goal.invariant-loop-x
invariant-loop-x l = l.out ≡ take l.x-index l.pairs
