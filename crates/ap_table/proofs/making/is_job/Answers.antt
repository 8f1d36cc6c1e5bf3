use Rattle.std.proofs.Common.{ap, sym, ◌∙◌, arith}
use Rattle.ap_table.specs.declared.stored.Stored.{Stored}
use Rattle.ap_table.proofs.Showing.{get_at, some_same}
use Rattle.ap_table.proofs.making.is_job.Goals as goal

pub returns : goal.returns
returns g c =
    let xs = c.args.nodes.now.items in
    let x = c.index-node.result.now in
    let at = get_at xs c.args.job.now.node x (omega (arith, c.if-i-len.false, c.len.ensures)) c.index-node.ensures in (
      (λ t. (x, at, c.in-Claimed.is, c.same_task.ensures.0 t)),
      (λ y. c.same_task.ensures.1 (y.3 ∙ ap (λ (z : Stored g.row.S-Task.Denot). z.task) (some_same y.0 x (sym y.1 ∙ at)))),
    )
