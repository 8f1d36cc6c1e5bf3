use Rattle.std.proofs.Common.{◌≡◌, drop}
use Rattle.ap_list.specs.Lists.{is_within}
use Rattle.ap_value.specs.Values.{symbol_eq}
use Rattle.ap_induct.proofs.symbols.is_within.Given as goal

-- those that are left decide
abbrev pub invariant-loop-x : goal.invariant-loop-x
invariant-loop-x l = is_within symbol_eq (drop l.x-index l.list) l.other ≡ is_within symbol_eq l.list l.other
