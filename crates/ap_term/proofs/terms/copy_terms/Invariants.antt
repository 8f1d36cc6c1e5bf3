use Rattle.std.proofs.Common.{◌≡◌, take}
use Rattle.ap_term.proofs.terms.copy_terms.Given as goal

-- the terms so far are copied
abbrev pub invariant-loop-x : goal.invariant-loop-x
invariant-loop-x l = l.out ≡ take l.x-index l.xs
