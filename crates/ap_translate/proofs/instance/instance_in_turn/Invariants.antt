use Rattle.std.proofs.Common.{◌≡◌, length, zip}
use Rattle.ap_translate.specs.Instances.{kept_by, kept_in_turn}
use Rattle.ap_translate.proofs.instance.instance_in_turn.Given as goal

-- the variables that are left are still to be replaced
abbrev pub invariant-loop-name : goal.invariant-loop-name
invariant-loop-name l = record {
  told : kept_by (kept_in_turn (zip l.left l.values)) l.inner ≡ kept_in_turn (zip l.names l.terms) l.fn.term;
  paired : length l.left ≡ length l.values;
}

abbrev pub decreases-loop-name : goal.decreases-loop-name
decreases-loop-name l = length l.left
