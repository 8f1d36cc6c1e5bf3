use Rattle.std.proofs.Common.{◌≡◌, drop, zip}
use Rattle.ap_list.specs.Lists.{lookup_by}
use Rattle.ap_value.specs.Values.{symbol_eq}
use Rattle.ap_eval.proofs.bindings.bound.Given as goal

-- the variable isn't among the formals that are passed
abbrev pub invariant-loop-i : goal.invariant-loop-i
invariant-loop-i l = lookup_by symbol_eq (zip (drop l.i l.names) (drop l.i l.values)) l.x ≡ lookup_by symbol_eq (zip l.names l.values) l.x
