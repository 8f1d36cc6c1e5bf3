use Rattle.std.proofs.Common.{◌-◌, ◌++◌, reverse, ap, ◌∙◌, arith}
use Rattle.ap_table.specs.Order.{numbers}
use Rattle.ap_table.proofs.Standing.{numbers_down}
use Rattle.ap_table.proofs.live.push_numbers.Goals as goal

pub loop-i-preserved : goal.loop-i-preserved
loop-i-preserved c = record {
  within = omega (arith, c.loop-i.invariant.within);
  room = omega (arith, c.loop-i.invariant.room, c.loop-i-test.true, c.push_reserved.ensures.len, c.push_reserved.ensures.capacity);
  items = ap (λ l. l ++ reverse (numbers c.args.first (c.loop-i.i - 1))) c.push_reserved.ensures.items
      ∙ (numbers_down c.args.first c.loop-i.i c.loop-i.live.items (omega (arith, c.loop-i-test.true)) ∙ c.loop-i.invariant.items);
}
