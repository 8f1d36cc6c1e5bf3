use Rattle.std.proofs.Common.{◌≡◌, ◌-◌, pos, true, rules, arith}
use Rattle.ap_value.specs.Values.{int_eq}
use Rattle.ap_linear.specs.Ranked.{head, no_ranks}
use Rattle.ap_linear.proofs.Ranks.{ranks_turn}
use Rattle.ap_linear.proofs.rows.no_ranks.Goals as goal

pub loop-count-preserved : goal.loop-count-preserved
loop-count-preserved c =
    let some = c.loop-count-test.true in
    let here : int_eq (head c.loop-count.left.now) (pos 0) ≡ true = search rules in
    ranks_turn c.loop-count.count (c.loop-count.count - 1) c.loop-count.left.now c.tail-left.result.now (no_ranks c.args.atoms c.args.coefficients.now) (omega arith) c.tail-left.ensures here c.loop-count.invariant
