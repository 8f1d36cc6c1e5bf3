use Rattle.std.proofs.Common.{◌≡◌, length, map}
use Rattle.ap_rules.specs.Made.{rule_in}
use Rattle.ap_rules.specs.Refused.{first_refusal, rule_refusal}
use Rattle.ap_rules.proofs.refusing.rewrite_refusal.Given as goal

-- what is left tells
abbrev pub invariant-loop-left : goal.invariant-loop-left
invariant-loop-left l = first_refusal rule_refusal (map rule_in l.left) ≡ first_refusal rule_refusal (map rule_in l.rules)

abbrev pub decreases-loop-left : goal.decreases-loop-left
decreases-loop-left l = length l.left
