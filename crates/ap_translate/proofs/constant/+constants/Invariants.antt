use Rattle.std.proofs.Common.{◌≡◌, ◌+◌, ◌*◌, drop, IfSome}
use Rattle.ap_translate.specs.Answers.{each}
use Rattle.ap_translate.specs.Quoted.{constant_in}
use Rattle.ap_translate.specs.Sizes.{few_values, capped, weight, list_values, AreCounted}
use Rattle.ap_translate.proofs.Kept.{onto}
use Rattle.ap_translate.proofs.constant.+constants.Given as goal

-- the constants so far, before those of the forms that are left, are all
abbrev pub invariant-constants-loop-item : goal.invariant-constants-loop-item
invariant-constants-loop-item l = record {
  told : onto weight (list_values l.out) (each (constant_in l.left) (drop l.item-index l.items)) ≡ capped few_values (each (constant_in l.left) l.items);
  counted : IfSome l.out AreCounted;
}

abbrev pub decreases-constant : goal.decreases-constant
decreases-constant l = 8 * l.left + 3

abbrev pub decreases-list : goal.decreases-list
decreases-list l = 8 * l.left + 2

abbrev pub decreases-dotted : goal.decreases-dotted
decreases-dotted l = 8 * l.left + 2

abbrev pub decreases-quoted : goal.decreases-quoted
decreases-quoted l = 8 * l.left + 2

abbrev pub decreases-constants : goal.decreases-constants
decreases-constants l = 8 * l.left + 5
