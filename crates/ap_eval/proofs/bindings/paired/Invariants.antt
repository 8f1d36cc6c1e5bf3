use Rattle.std.proofs.Common.{◌≡◌, drop}
use Rattle.ap_list.specs.Lists.{lookup_by}
use Rattle.ap_value.specs.Values.{symbol_eq}
use Rattle.ap_eval.proofs.bindings.paired.Given as goal

-- the variable isn't in the pairs that are passed
abbrev pub invariant-loop-name : goal.invariant-loop-name
invariant-loop-name l = lookup_by symbol_eq (drop l.name-index l.pairs) l.x ≡ lookup_by symbol_eq l.pairs l.x
