use Rattle.std.proofs.Common.{sym, ap, ◌∙◌}
use Rattle.ap_table.specs.Shown.{Run}
use Rattle.ap_table.proofs.nodes.Nodes.root_done.Goals as goal

pub returns : goal.returns
returns g c = (
  (λ t. (
    c.is_done.ensures.0 t,
    ap (λ (x : Run g.row.S-Task.Denot). x.root) (sym c.self.view_is) ∙ c.same_task.ensures.0 c.if-not-same_task.false,
    ap (λ (x : Run g.row.S-Task.Denot). x.rule) (sym c.self.view_is) ∙ c.same_rule.ensures.0 c.if-not-same_rule.false,
  )),
  (λ h. c.is_done.ensures.1 h.0),
)
