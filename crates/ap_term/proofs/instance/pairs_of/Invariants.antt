use Rattle.std.proofs.Common.{◌≡◌, ◌++◌, length, zip}
use Rattle.ap_term.proofs.instance.pairs_of.Given as goal

-- the pairs so far, and those of what is left
abbrev pub invariant-loop-left : goal.invariant-loop-left
invariant-loop-left l = l.out ++ zip l.left l.values ≡ zip l.names l.terms

abbrev pub decreases-loop-left : goal.decreases-loop-left
decreases-loop-left l = length l.left
