use Rattle.std.proofs.Common.{◌≢◌, arith}
use Rattle.ap_table.proofs.Standing.{each_down}
use Rattle.ap_table.proofs.live.stand.Goals as goal

pub loop-at-preserved : goal.loop-at-preserved
loop-at-preserved c = record {
  within = omega (arith, c.loop-at.invariant.within);
  others = each_down (λ x. x ≢ c.args.node) c.args.live.now c.loop-at.at _ (omega (arith, c.loop-at-test.true)) c.loop-at.invariant.within c.if-live-at.false c.loop-at.invariant.others;
}
