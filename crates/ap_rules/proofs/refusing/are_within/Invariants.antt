use Rattle.std.proofs.Common.{◌≡◌, length}
use Rattle.ap_list.specs.Lists.{is_within}
use Rattle.ap_value.specs.Values.{symbol_eq}
use Rattle.ap_rules.proofs.refusing.are_within.Given as goal

-- what is left tells
abbrev pub invariant-loop-left : goal.invariant-loop-left
invariant-loop-left l = is_within symbol_eq l.left l.ys ≡ is_within symbol_eq l.xs l.ys

abbrev pub decreases-loop-left : goal.decreases-loop-left
decreases-loop-left l = length l.left
