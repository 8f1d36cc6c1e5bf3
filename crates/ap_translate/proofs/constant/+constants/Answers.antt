use Rattle.std.proofs.Common.{arith}
use Rattle.ap_value.specs.Counts.{node_count}
use Rattle.ap_translate.specs.Answers.{each}
use Rattle.ap_translate.specs.Quoted.{constant_in}
use Rattle.ap_translate.specs.Sizes.{weight, few_values, capped, list_values}
use Rattle.ap_translate.proofs.Kept.{next}
use Rattle.ap_translate.proofs.Constants.{at_form, list_made, dotted_made, quoted_large}
use Rattle.ap_translate.proofs.constant.+constants.Goals as goal

pub constants-loop-item-preserved : goal.constants-loop-item-preserved
constants-loop-item-preserved t c =
    let items = c.args.items.now in
    let i = c.loop-item.item-index in
    let f = c.item-item.result in
    record {
      told = next node_count weight (λ a. omega arith) (constant_in c.args.left) items i f (list_values c.loop-item.out) (capped few_values (each (constant_in c.args.left) items))
          (at_form items i f c.loop-item-test.true c.item-item.is) c.loop-item.invariant.told (list_values c.in_ok-out.out) c.in_ok-next.next c.in_ok-next.ensures c.in_ok-out.ensures.value;
      counted = c.in_ok-out.ensures.counted;
    }

pub dotted-returns : goal.dotted-returns
dotted-returns t c =
    dotted_made c.args.left c.args.place c.args.items.now c.args.last.now c.in_ok-values.values c.in_ok-end.end c.in_ok-value.value c.if-left-eq0.false
    c.in_ok-values.ensures c.in_ok-end.ensures c.in_ok-value.ensures

pub list-returns : goal.list-returns
list-returns t c =
    list_made c.args.left c.args.place c.args.items.now c.in_ok-values.values c.in_ok-value.value c.if-left-eq0.false c.in_ok-values.ensures c.in_ok-value.ensures

pub quoted-returns-in-None : goal.quoted-returns-in-None
quoted-returns-in-None t c = quoted_large c.args.left c.args.place c.args.inner.now c.in_ok-constant.field-0 c.if-left-eq0.false c.in_ok-constant.ensures c.in-None.is
