use Rattle.std.proofs.Common.{◌≡◌, Some, reverse, refl, sym, ap, subst, ◌∙◌, arith}
use Rattle.std.specs.List.{slice_get}
use Rattle.std.specs.Vec.{vec_capacity}
use Rattle.ap_table.specs.Core.{Node, free}
use Rattle.ap_table.specs.Sound.{IsFree}
use Rattle.ap_table.specs.Shown.{Run, nodes_of}
use Rattle.ap_table.specs.Calls.{longer}
use Rattle.ap_table.specs.declared.stored.Entry.TheVariants as entry
use Rattle.ap_table.specs.declared.stored.Stage.TheVariants as stage
use Rattle.ap_table.proofs.Showing.{room_alter}
use Rattle.ap_table.proofs.Moving.{free_there, free_node, busy_there, claim_room, claimed_table, claimed_task}
use Rattle.ap_table.proofs.nodes.Nodes.claim_node_step.Goals as goal

pub returns-then-not-is_free : goal.returns-then-not-is_free
returns-then-not-is_free g c =
    let i = c.self.inside in
    let step = g.S.Step.step_of in
    let depth = g.S.Step.depth in
    let r : Run g.row.S-Task.Denot = record { root = i.root; rule = i.rule; history = i.history.items } in (
      refl,
      λ f. busy_there step depth i.nodes.items (nodes_of step depth r) c.args.node (slice_get (nodes_of step depth r) c.args.node) refl c.self.invariant.shows (sym c.is_free.ensures ∙ c.if-not-is_free.true)
          (subst (λ (x : Run g.row.S-Task.Denot). IsFree (slice_get (nodes_of step depth x) c.args.node)) (sym c.self.view_is) f),
    )

pub push_reserved-requires : goal.push_reserved-requires
push_reserved-requires g c =
    let i = c.self.inside in
    let f = free_there i.nodes.items c.args.node (sym c.is_free.ensures ∙ c.if-not-is_free.false) in
    let set = room_alter i.nodes.items c.args.node f.0 (λ x. record x { stage = stage.Claimed }) f.1 in
    let five = claim_room f.0.stage f.2 in
    let had = c.self.invariant.room in
    let cap = c.self.invariant.reserved in
    let len = i.history.ok.0 in
    omega arith

pub invariant_of-self : goal.invariant_of-self
invariant_of-self g c =
    let i = c.self.inside in
    let r : Run g.row.S-Task.Denot = record { root = i.root; rule = i.rule; history = i.history.items } in
    rw (c.push_reserved.ensures.items, c.push_reserved.ensures.capacity, c.set_claimed-task.ensures.nodes)
    (claimed_table g.S.Step.step_of g.S.Step.depth r i.nodes.items (reverse i.live.items) (vec_capacity i.history) c.args.node c.self.invariant (sym c.is_free.ensures ∙ c.if-not-is_free.false))

pub returns : goal.returns
returns g c =
    let i = c.self.inside in
    let step = g.S.Step.step_of in
    let depth = g.S.Step.depth in
    let r : Run g.row.S-Task.Denot = record { root = i.root; rule = i.rule; history = i.history.items } in
    let e = entry.Claimed c.args.node in
    let is = sym c.is_free.ensures ∙ c.if-not-is_free.false in
    let n = free_node step depth i.nodes.items (nodes_of step depth r) c.args.node c.self.invariant.shows is in
    let task = claimed_task step depth i.nodes.items (nodes_of step depth r) c.args.node c.set_claimed-task.result c.self.invariant.shows is c.set_claimed-task.ensures.copy n.0 n.1 in (
      ap (λ (h : _). let x : Run g.row.S-Task.Denot = record { root = i.root; rule = i.rule; history = h } in x) c.push_reserved.ensures.items ∙ ap (λ (x : Run g.row.S-Task.Denot). longer x e) c.self.view_is,
      refl,
      ap (λ (x : Run g.row.S-Task.Denot). x.rule) c.self.view_is,
      subst (λ (x : Run g.row.S-Task.Denot). (n : Node g.row.S-Task.Denot) × (slice_get (nodes_of step depth x) c.args.node ≡ Some n) × (n.phase ≡ free) × (c.set_claimed-task.result ≡ n.task)) c.self.view_is (n.0, n.1, n.2, task),
    )
