use Rattle.std.proofs.Common.{◌≡◌, drop, map}
use Rattle.ap_term.specs.Matching.{match_all, matched}
use Rattle.ap_term.proofs.matching.+matching.Given as goal

-- matching what is left with the pairs so far is matching all
abbrev pub invariant-match_terms-loop-i : goal.invariant-match_terms-loop-i
invariant-match_terms-loop-i l = match_all (map matched (drop l.i l.patterns)) (drop l.i l.ts) l.pairs ≡ match_all (map matched l.patterns) l.ts l.fn.pairs
