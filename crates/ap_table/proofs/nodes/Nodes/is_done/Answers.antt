use Rattle.std.proofs.Common.{refl, sym, subst, ◌∙◌, IsTrue}
use Rattle.ap_table.specs.Shown.{Run, nodes_of}
use Rattle.ap_table.specs.Ended.{HasEnded}
use Rattle.ap_table.proofs.Moving.{done_shown, shown_done}
use Rattle.ap_table.proofs.nodes.Nodes.is_done.Goals as goal

pub returns : goal.returns
returns g c =
    let i = c.self.inside in
    let step = g.S.Step.step_of in
    let depth = g.S.Step.depth in
    let r : Run g.row.S-Task.Denot = record { root = i.root; rule = i.rule; history = i.history.items } in (
      (λ t. subst (λ (x : Run g.row.S-Task.Denot). HasEnded step depth x) c.self.view_is
          (done_shown step i.nodes.items (nodes_of step depth r) 0 c.self.invariant.shows (sym c.is_done.ensures ∙ t))),
      (λ h. subst IsTrue
          (sym (c.is_done.ensures ∙ shown_done step i.nodes.items (nodes_of step depth r) 0 c.self.invariant.shows
          (subst (λ (x : Run g.row.S-Task.Denot). HasEnded step depth x) (sym c.self.view_is) h))) refl),
    )
