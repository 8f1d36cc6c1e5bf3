use Rattle.std.proofs.Common.{◌≤◌, arith}
use Rattle.std.specs.Vec.{vec_capacity}
use Rattle.ap_table.proofs.Moving.{first_table}
use Rattle.ap_table.proofs.nodes.first_nodes.Goals as goal

pub invariant_of-result : goal.invariant_of-result
invariant_of-result g c =
    let big : 5 ≤ vec_capacity c.reserve.new.self = omega (arith, c.in_ok-reserve.ensures.ok) in
    rw (c.in_ok-push.ensures.items, c.new-nodes.ensures.items, c.in_ok-node.ensures, c.in_ok-push-2.ensures.items, c.new-live.ensures.items, c.reserve.ensures.items, c.new-history.ensures.items)
    (first_table g.S.Step.step_of g.S.Step.depth c.args.task c.args.rule (vec_capacity c.reserve.new.self) big)
