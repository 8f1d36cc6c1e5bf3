use Rattle.ap_induct.proofs.Powers.{past_alone, past_counted}
use Rattle.ap_induct.proofs.counting.few_choices.Goals as goal
use Rattle.ap_induct.proofs.counting.few_choices.Goals.{then-literals-gt-MOST-via-then-literals-gt-MOST, then-literals-gt-MOST-via-else-literals-gt-MOST+then-count-literals-gt-MOST}

pub returns-then-literals-gt-MOST-clause-past : goal.returns-then-literals-gt-MOST-clause-past
returns-then-literals-gt-MOST-clause-past c =
    elim c.then-literals-gt-MOST.branch [
      | then-literals-gt-MOST-via-then-literals-gt-MOST w ↦
          past_alone c.loop-left.count c.args.literals c.loop-left.left c.args.calls c.loop-left-test.true c.loop-left.invariant.0 w.if-literals-gt-MOST.true
      | then-literals-gt-MOST-via-else-literals-gt-MOST+then-count-literals-gt-MOST w ↦
          past_counted c.loop-left.count c.args.literals c.loop-left.left c.args.calls c.loop-left-test.true c.loop-left.invariant.0 w.if-count-literals-gt-MOST.true
    ]
