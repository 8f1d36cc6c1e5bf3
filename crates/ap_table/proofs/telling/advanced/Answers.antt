use Rattle.std.proofs.Common.{◌+◌, Some, None, arith, refl, sym, ap, inr, ◌∙◌}
use Rattle.ap_table.proofs.Totals.{sums_get, front_next}
use Rattle.ap_table.specs.Sums.{sums_of}
use Rattle.ap_table.proofs.telling.advanced.Goals as goal

pub loop-at-preserved : goal.loop-at-preserved
loop-at-preserved g c = record {
  within = omega (arith, c.loop-at-test.true);
  done = front_next (sums_of None c.args.nodes.now.items c.args.first c.args.count) c.loop-at.at (c.loop-at.at + 1) c.in_default.field-0 refl
      (sums_get None c.args.nodes.now.items c.args.first c.args.count c.loop-at.at (omega (arith, c.loop-at-test.true)) ∙ ap (λ o. Some o) (sym c.node_sum.ensures ∙ c.in_default.is)) c.loop-at.invariant.done;
}

pub returns-in-loop-at-clause-next : goal.returns-in-loop-at-clause-next
returns-in-loop-at-clause-next g c =
    inr (sums_get None c.args.nodes.now.items c.args.first c.args.count c.loop-at.at (omega (arith, c.loop-at-test.true)) ∙ ap (λ o. Some o) (sym c.node_sum.ensures ∙ c.in-None.is))
