use Rattle.std.proofs.Common.{◌≡◌, take}
use Rattle.ap_hints.proofs.same.same_pairs.Given as goal

-- the pairs so far are the same
abbrev pub invariant-loop-i : goal.invariant-loop-i
invariant-loop-i l = take l.i l.a ≡ take l.i l.b
