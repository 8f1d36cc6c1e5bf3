use Rattle.std.proofs.Common.{◌≡◌, length}
use Rattle.ap_list.specs.Lists.{is_distinct}
use Rattle.ap_value.specs.Values.{symbol_eq}
use Rattle.ap_induct.proofs.symbols.is_distinct.Given as goal

-- those that are left decide
abbrev pub invariant-loop-left : goal.invariant-loop-left
invariant-loop-left l = is_distinct symbol_eq l.left ≡ is_distinct symbol_eq l.list

abbrev pub decreases-loop-left : goal.decreases-loop-left
decreases-loop-left l = length l.left
