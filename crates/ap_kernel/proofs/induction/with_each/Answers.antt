use Rattle.std.proofs.Common.{◌≡◌, ◌+◌, ◌++◌, drop, arith}
use Rattle.ap_kernel.proofs.Listed.{from_item, each_before, one_more}
use Rattle.ap_kernel.proofs.induction.with_each.Goals as goal

pub loop-x-preserved : goal.loop-x-preserved
loop-x-preserved c =
    let xs = c.args.firsts.now in
    let i = c.loop-x.x-index in
    let more : c.push_before.new.out ≡ c.loop-x.out ++ each_before c.args.later.now c.x-item.result = c.in_ok-push_before.ensures in
    one_more c.args.later.now xs c.x-item.result (drop i xs) (drop (i + 1) xs) c.loop-x.out c.push_before.new.out (from_item xs i c.x-item.result (omega arith) c.x-item.is) more c.loop-x.invariant
