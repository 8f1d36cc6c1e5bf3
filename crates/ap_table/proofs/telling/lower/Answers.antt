use Rattle.std.proofs.Common.{◌≡◌, ◌+◌, ◌-◌, ℕ, Some, None, true, arith, sym, ap, subst, ◌∙◌}
use Rattle.ap_table.specs.Sums.{sums_of, sum_first, sum_stops}
use Rattle.ap_table.proofs.Totals.{sums_get, first_less, none_stops}
use Rattle.ap_table.proofs.telling.lower.Goals as goal

pub overflow_sub-sum : goal.overflow_sub-sum
overflow_sub-sum g c = (first_less (sums_of None c.args.nodes.now.items c.args.first c.args.count) c.loop-at.at c.loop-at.sum c.weight-less.result _ (omega (arith, c.loop-at-test.true)) c.loop-at.invariant.sum
    (sums_get None c.args.nodes.now.items c.args.first c.args.count (c.loop-at.at - 1) (omega (arith, c.loop-at-test.true, c.loop-at.invariant.within, c.requires.within)) ∙ ap (λ o. Some o) (sym c.node_sum.ensures)) c.weight-less.ensures.is).0

pub overflow_sub-sum-in-loop-at : goal.overflow_sub-sum-in-loop-at
overflow_sub-sum-in-loop-at g c = (first_less (sums_of None c.args.nodes.now.items c.args.first c.args.count) c.loop-at.at c.loop-at.sum c.weight-less.result _ (omega (arith, c.loop-at-test.true)) c.loop-at.invariant.sum
    (sums_get None c.args.nodes.now.items c.args.first c.args.count (c.loop-at.at - 1) (omega (arith, c.loop-at-test.true, c.loop-at.invariant.within, c.requires.within)) ∙ ap (λ o. Some o) (sym c.node_sum.ensures)) c.weight-less.ensures.is).1

pub overflow_sub-sum-in-loop-at-2 : goal.overflow_sub-sum-in-loop-at-2
overflow_sub-sum-in-loop-at-2 g c = (first_less (sums_of None c.args.nodes.now.items c.args.first c.args.count) c.loop-at.at c.loop-at.sum c.weight-less.result _ (omega (arith, c.loop-at-test.true)) c.loop-at.invariant.sum
    (sums_get None c.args.nodes.now.items c.args.first c.args.count (c.loop-at.at - 1) (omega (arith, c.loop-at-test.true, c.loop-at.invariant.within, c.requires.within)) ∙ ap (λ o. Some o) (sym c.node_sum.ensures)) c.weight-less.ensures.is).2

pub loop-at-preserved : goal.loop-at-preserved
loop-at-preserved g c =
    let os = sums_of None c.args.nodes.now.items c.args.first c.args.count in
    let step = first_less os c.loop-at.at c.loop-at.sum c.weight-less.result _ (omega (arith, c.loop-at-test.true)) c.loop-at.invariant.sum
    (sums_get None c.args.nodes.now.items c.args.first c.args.count (c.loop-at.at - 1) (omega (arith, c.loop-at-test.true, c.loop-at.invariant.within, c.requires.within)) ∙ ap (λ o. Some o) (sym c.node_sum.ensures)) c.weight-less.ensures.is in
    record {
      within = omega (arith, c.loop-at.invariant.within);
      sum = step.3;
      stop = λ lt.
          subst (λ (n : ℕ). sum_stops c.args.rule (sum_first os n) ≡ true) (let e : c.loop-at.at ≡ c.loop-at.at - 1 + 1 = omega (arith, c.loop-at-test.true) in e)
          (ap (sum_stops c.args.rule) (sym c.loop-at.invariant.sum) ∙ (sym c.does_stop.ensures ∙ c.if-not-does_stop.false));
    }

pub returns-clause-before : goal.returns-clause-before
returns-clause-before g c =
    none_stops c.args.rule (sums_of None c.args.nodes.now.items c.args.first c.args.count) c.loop-at.at c.loop-at.sum (omega (arith, c.loop-at-test.false)) c.args.rule.limited.0 c.loop-at.invariant.sum
