use Rattle.std.proofs.Common.{sym, ◌∙◌}
use Rattle.ap_table.proofs.Showing.{fresh_none, fresh_push}
use Rattle.ap_table.proofs.making.fresh_nodes.Goals as goal

pub loop-place-init : goal.loop-place-init
loop-place-init g c = c.new-nodes.ensures.items ∙ sym (fresh_none c.args.family c.args.path.now 0)

pub loop-place-preserved : goal.loop-place-preserved
loop-place-preserved g c =
    fresh_push c.args.family c.args.path.now c.loop-place.place c.args.tasks.now c.index-tasks-place.result c.index-tasks-place-in-loop-place.result
    c.in_ok-task.task c.in_ok-copy.copy c.in_ok-path.path c.loop-place.nodes.items c.push.new.self.items
    c.loop-place-test.true c.index-tasks-place.is c.index-tasks-place-in-loop-place.is c.in_ok-task.ensures c.in_ok-copy.ensures c.in_ok-path.ensures
    c.loop-place.invariant c.in_ok-push.ensures.items
