use Rattle.std.proofs.Common.{◌≡◌, ◌+◌, Bool, List, ◌||◌, length}
use Rattle.ap_rules.specs.declared.linear.LinearRule.{LinearRule}
use Rattle.ap_rules.specs.Placed.{places_from}
use Rattle.ap_rules.proofs.Merging.{Merged}
use Rattle.ap_rules.proofs.finding.merged.Given as goal

-- the places so far, and those that are left in both lists
abbrev pub invariant-loop-place : goal.invariant-loop-place
invariant-loop-place l = (p q : LinearRule → Bool) (gs : List LinearRule) → l.xs ≡ places_from p 0 gs → l.ys ≡ places_from q 0 gs → Merged p q l.left l.right l.out (places_from (λ g. p g || q g) 0 gs)

abbrev pub decreases-loop-place : goal.decreases-loop-place
decreases-loop-place l = length l.left + length l.right
