use Rattle.std.proofs.Common.{refl, sym, subst}
use Rattle.ap_table.specs.Shown.{Run, nodes_of}
use Rattle.ap_table.specs.Calls.{CanGrow}
use Rattle.ap_table.proofs.Showing.{room_kept, room_shown}
use Rattle.ap_table.proofs.nodes.Nodes.can_grow.Goals as goal

pub returns : goal.returns
returns g c =
    let i = c.self.inside in
    let step = g.S.Step.step_of in
    let depth = g.S.Step.depth in
    let r : Run g.row.S-Task.Denot = record { root = i.root; rule = i.rule; history = i.history.items } in (
      (λ t. subst (λ (x : Run g.row.S-Task.Denot). CanGrow step depth x c.args.node c.args.count) c.self.view_is
          (room_shown step depth i.nodes.items (nodes_of step depth r) c.args.node c.args.count c.args.count refl c.self.invariant.shows (c.has_room.ensures.0 t))),
      (λ a. c.has_room.ensures.1 (room_kept step depth i.nodes.items (nodes_of step depth r) c.args.node c.args.count c.args.count refl c.self.invariant.shows
          (subst (λ (x : Run g.row.S-Task.Denot). CanGrow step depth x c.args.node c.args.count) (sym c.self.view_is) a))),
    )
