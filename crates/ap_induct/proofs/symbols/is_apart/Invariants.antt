use Rattle.std.proofs.Common.{◌≡◌, not, drop, map}
use Rattle.ap_list.specs.Lists.{all_true, is_among}
use Rattle.ap_value.specs.Values.{symbol_eq}
use Rattle.ap_induct.proofs.symbols.is_apart.Given as goal

-- those that are left decide
abbrev pub invariant-loop-x : goal.invariant-loop-x
invariant-loop-x l = all_true (map (λ x. not (is_among symbol_eq x l.other)) (drop l.x-index l.list)) ≡ all_true (map (λ x. not (is_among symbol_eq x l.other)) l.list)
