use Rattle.std.proofs.Common.{◌≡◌, None, zip, ◌∙◌, rules, arith}
use Rattle.ap_term.proofs.Seen.{deeper}
use Rattle.ap_translate.specs.Instances.{nodes_of}
use Rattle.ap_translate.proofs.Counted.{next_counted, next_past}
use Rattle.ap_translate.proofs.instance.+counting.Goals as goal

pub count-count_all-requires : goal.count-count_all-requires
count-count_all-requires t c =
    let d = deeper c.term.view_is c.in-Call.is c.as_slice.ensures in
    (omega (arith, c.decreases), search rules)

pub count_all-loop-part-preserved : goal.count_all-loop-part-preserved
count_all-loop-part-preserved t c = record {
  told = next_counted (nodes_of (zip c.args.names.now c.args.terms.now)) c.args.parts.now c.loop-part.part-index c.loop-part.total c.in_ok-total.total c.part-item.result _
      c.loop-part-test.true c.part-item.is c.in_ok-total.ensures.is c.loop-part.invariant.told;
  low = c.in_ok-total.ensures.low;
}

pub count_all-returns-in_err-total-clause-is : goal.count_all-returns-in_err-total-clause-is
count_all-returns-in_err-total-clause-is t c =
    let none : c.from_residual.result ≡ None = search rules in
    none ∙ next_past (nodes_of (zip c.args.names.now c.args.terms.now)) c.args.parts.now c.loop-part.part-index c.loop-part.total c.part-item.result _
    c.loop-part-test.true c.part-item.is c.in_err-total.ensures.is c.loop-part.invariant.told
