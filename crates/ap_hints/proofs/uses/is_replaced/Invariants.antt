use Rattle.std.proofs.Common.{◌≡◌, drop, map}
use Rattle.ap_list.specs.Lists.{is_among}
use Rattle.ap_value.specs.Values.{symbol_eq}
use Rattle.ap_hints.specs.Hinted.{variable_of}
use Rattle.ap_hints.proofs.uses.is_replaced.Given as goal

-- what is left tells
abbrev pub invariant-loop-pair : goal.invariant-loop-pair
invariant-loop-pair l =
    is_among symbol_eq l.variable (map variable_of (drop l.pair-index l.pairs)) ≡ is_among symbol_eq l.variable (map variable_of l.pairs)
