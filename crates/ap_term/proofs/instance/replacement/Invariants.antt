use Rattle.std.proofs.Common.{◌≡◌, drop}
use Rattle.ap_list.specs.Lists.{lookup_by}
use Rattle.ap_value.specs.Values.{symbol_eq}
use Rattle.ap_term.proofs.instance.replacement.Given as goal

-- what is left of the pairs has the answer
abbrev pub invariant-loop-y : goal.invariant-loop-y
invariant-loop-y l = lookup_by symbol_eq (drop l.y-index l.pairs) l.x ≡ lookup_by symbol_eq l.pairs l.x
