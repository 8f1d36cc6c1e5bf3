use Rattle.std.proofs.Common.{◌≡◌, ◌*◌, ◌^◌, ◌≤◌}
use Rattle.ap_induct.proofs.counting.few_choices.Given as goal

-- what is counted, by the choices that are left
abbrev pub invariant-loop-left : goal.invariant-loop-left
invariant-loop-left l = (l.count * l.literals ^ l.left ≡ l.literals ^ l.calls) × (l.count ≤ 1024)

abbrev pub decreases-loop-left : goal.decreases-loop-left
decreases-loop-left l = l.left
