use Rattle.ap_hints.proofs.Saying.{first_and_rest, said_next}
use Rattle.ap_hints.proofs.said.all_said.Goals as goal

pub loop-left-preserved : goal.loop-left-preserved
loop-left-preserved c =
    said_next c.args.w.now c.args.at_goal c.loop-left.said c.in_ok-said.said _ c.loop-left.left.now _ c.key-item.result c.value-item.result
    (first_and_rest c.loop-left.left.now c.key-item.result c.in-len1-up.len_at_least c.key-item.is)
    c.in-len1-up-more.len_at_least c.value-item.is c.in_ok-said.ensures c.loop-left.invariant
