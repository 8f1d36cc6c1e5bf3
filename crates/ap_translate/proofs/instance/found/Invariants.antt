use Rattle.std.proofs.Common.{◌≡◌, length, zip}
use Rattle.ap_list.specs.Lists.{lookup_by}
use Rattle.ap_value.specs.Values.{symbol_eq}
use Rattle.ap_translate.proofs.instance.found.Given as goal

-- what is left tells
abbrev pub invariant-loop-left : goal.invariant-loop-left
invariant-loop-left l = lookup_by symbol_eq (zip l.left l.values) l.name ≡ lookup_by symbol_eq (zip l.names l.terms) l.name

abbrev pub decreases-loop-left : goal.decreases-loop-left
decreases-loop-left l = length l.left
