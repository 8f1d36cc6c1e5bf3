use Rattle.std.proofs.Common.{◌≡◌, reverse, refl, sym, ap, subst, ◌∙◌, arith}
use Rattle.std.specs.Vec.{vec_capacity}
use Rattle.ap_table.specs.Order.{IsFirst}
use Rattle.ap_table.specs.Live.{FirstFree}
use Rattle.ap_table.specs.Shown.{Run, nodes_of}
use Rattle.ap_table.specs.Calls.{longer, NoneFree}
use Rattle.ap_table.specs.declared.stored.Entry.TheVariants as entry
use Rattle.ap_table.specs.declared.stored.Stage.TheVariants as stage
use Rattle.ap_table.proofs.Showing.{room_alter}
use Rattle.ap_table.proofs.Moving.{free_there, claim_room, claimed_table, first_found, nothing_found, claimed_task}
use Rattle.ap_table.proofs.nodes.Nodes.claim_step.Goals as goal

pub returns-in_default : goal.returns-in_default
returns-in_default g c =
    let i = c.self.inside in
    let step = g.S.Step.step_of in
    let depth = g.S.Step.depth in
    let r : Run g.row.S-Task.Denot = record { root = i.root; rule = i.rule; history = i.history.items } in (
      refl,
      subst (λ (x : Run g.row.S-Task.Denot). NoneFree (nodes_of step depth x)) c.self.view_is
          (nothing_found step depth i.nodes.items (nodes_of step depth r) i.live.items c.self.invariant.shows c.self.invariant.order
          (rw (sym c.as_slice.ensures.value) (c.in_default.ensures.none refl))),
    )

pub push_reserved-requires : goal.push_reserved-requires
push_reserved-requires g c =
    let i = c.self.inside in
    let f = free_there i.nodes.items c.in-Some.node c.in-Some.ensures.found.is_free in
    let set = room_alter i.nodes.items c.in-Some.node f.0 (λ x. record x { stage = stage.Claimed }) f.1 in
    let five = claim_room f.0.stage f.2 in
    let had = c.self.invariant.room in
    let cap = c.self.invariant.reserved in
    let len = i.history.ok.0 in
    omega arith

pub invariant_of-self : goal.invariant_of-self
invariant_of-self g c =
    let i = c.self.inside in
    let r : Run g.row.S-Task.Denot = record { root = i.root; rule = i.rule; history = i.history.items } in
    rw (c.push_reserved.ensures.items, c.push_reserved.ensures.capacity, c.set_claimed-task.ensures.nodes)
    (claimed_table g.S.Step.step_of g.S.Step.depth r i.nodes.items (reverse i.live.items) (vec_capacity i.history) c.in-Some.node c.self.invariant c.in-Some.ensures.found.is_free)

pub returns : goal.returns
returns g c =
    let i = c.self.inside in
    let step = g.S.Step.step_of in
    let depth = g.S.Step.depth in
    let r : Run g.row.S-Task.Denot = record { root = i.root; rule = i.rule; history = i.history.items } in
    let e = entry.Claimed c.in-Some.node in
    let found : FirstFree i.nodes.items i.live.items c.in-Some.node = subst (λ l. FirstFree i.nodes.items l c.in-Some.node) c.as_slice.ensures.value c.in-Some.ensures.found in
    let first = first_found step depth i.nodes.items (nodes_of step depth r) i.live.items c.in-Some.node c.self.invariant.shows c.self.invariant.order found in
    let task = claimed_task step depth i.nodes.items (nodes_of step depth r) c.in-Some.node c.set_claimed-task.result c.self.invariant.shows found.is_free c.set_claimed-task.ensures.copy first.node first.at in (
      ap (λ (h : _). let x : Run g.row.S-Task.Denot = record { root = i.root; rule = i.rule; history = h } in x) c.push_reserved.ensures.items ∙ ap (λ (x : Run g.row.S-Task.Denot). longer x e) c.self.view_is,
      ap (λ (x : Run g.row.S-Task.Denot). x.rule) c.self.view_is,
      subst (λ (x : Run g.row.S-Task.Denot). (first : IsFirst (nodes_of step depth x) c.in-Some.node) × (c.set_claimed-task.result ≡ first.node.task)) c.self.view_is (first, task),
    )
