use Rattle.std.proofs.Common.{◌≡◌, take}
use Rattle.ap_term.proofs.terms.+sameness.Given as goal

-- the terms so far are the same
abbrev pub invariant-same_terms-loop-i : goal.invariant-same_terms-loop-i
invariant-same_terms-loop-i l = take l.i l.a ≡ take l.i l.b
