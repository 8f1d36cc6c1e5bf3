use Rattle.std.proofs.Common.{◌≡◌, ◌++◌, length, zip}
use Rattle.ap_translate.specs.Instances.{known_pairs}
use Rattle.ap_translate.proofs.instance.pairs_kept.Given as goal

-- the pairs so far, and those of what is left
abbrev pub invariant-loop-left : goal.invariant-loop-left
invariant-loop-left l = l.out ++ known_pairs (zip l.left l.values) ≡ known_pairs (zip l.names l.terms)

abbrev pub decreases-loop-left : goal.decreases-loop-left
decreases-loop-left l = length l.left
