use Rattle.std.proofs.Common.{◌≡◌, drop, is_some}
use Rattle.ap_list.specs.Lists.{lookup_by}
use Rattle.ap_value.specs.Values.{symbol_eq}
use Rattle.ap_rewrite.proofs.facts.has_pair.Given as goal

-- what is left of the pairs decides
abbrev pub invariant-loop-y : goal.invariant-loop-y
invariant-loop-y l = is_some (lookup_by symbol_eq (drop l.y-index l.pairs) l.x) ≡ is_some (lookup_by symbol_eq l.pairs l.x)
