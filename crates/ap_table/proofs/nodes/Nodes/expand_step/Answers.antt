use Rattle.std.proofs.Common.{◌≡◌, ◌<◌, ◌≤◌, ◌+◌, ◌*◌, ◌++◌, ◌∷◌, [], ℕ, Some, refl, sym, ap, subst, ◌∙◌, arith, length, reverse, length-append}
use Rattle.std.specs.List.{slice_get}
use Rattle.std.specs.Vec.{vec_capacity}
use Rattle.ap_walk.specs.Visits.{out_children}
use Rattle.ap_walk.specs.declared.act.Out.{Out}
use Rattle.ap_walk.specs.declared.act.Stepped.{Stepped}
use Rattle.ap_table.specs.Core.{Node, claimed}
use Rattle.ap_table.specs.Shown.{Run, nodes_of}
use Rattle.ap_table.specs.Calls.{longer, IsNodeJob, CanGrow}
use Rattle.ap_table.specs.declared.stored.Entry.TheVariants as entry
use Rattle.ap_table.specs.declared.stored.Stored.{Stored}
use Rattle.ap_table.proofs.Showing.{get_at, some_same, below_length, length_fresh, show_length, job_shown, job_kept, room_kept, room_shown}
use Rattle.ap_table.proofs.Moving.{expanded_table, larger_table}
use Rattle.ap_table.proofs.Splitting.{own_is, split_only}
use Rattle.ap_table.proofs.nodes.Nodes.expand_step.Goals as goal

pub returns-then-not-same_rule : goal.returns-then-not-same_rule
returns-then-not-same_rule g c = (
  refl,
  refl,
  refl,
  λ j can.
      let t = c.same_rule.ensures.1 (ap (λ (x : Run g.row.S-Task.Denot). x.rule) c.self.view_is ∙ sym j.0) in
      let f = c.if-not-same_rule.true in absurd (cc),
)

pub fresh_nodes-requires : goal.fresh_nodes-requires
fresh_nodes-requires g c =
    let h = c.has_room.ensures.0 c.if-not-has_room.false in
    let few = h.3 in
    let l : length c.as_slice.result.now ≡ c.len-count.result = ap length c.as_slice.ensures ∙ sym c.len-count.ensures in
    omega arith

pub returns-then-not-is_job : goal.returns-then-not-is_job
returns-then-not-is_job g c =
    let i = c.self.inside in
    let r : Run g.row.S-Task.Denot = record { root = i.root; rule = i.rule; history = i.history.items } in (
      refl,
      refl,
      refl,
      λ j can.
          let own : IsNodeJob g.S.Step.step_of g.S.Step.depth r c.args.job = subst (λ (x : Run g.row.S-Task.Denot). IsNodeJob g.S.Step.step_of g.S.Step.depth x c.args.job) (sym c.self.view_is) j in
          let t = c.is_job.ensures.1 (job_kept g.S.Step.step_of g.S.Step.depth i.nodes.items (nodes_of g.S.Step.step_of g.S.Step.depth r) c.args.job.node c.args.job.task c.self.invariant.shows own.1) in
          let f = c.if-not-is_job.true in absurd (cc),
    )

pub returns-then-not-has_room : goal.returns-then-not-has_room
returns-then-not-has_room g c =
    let i = c.self.inside in
    let r : Run g.row.S-Task.Denot = record { root = i.root; rule = i.rule; history = i.history.items } in
    let count : length (out_children c.args.stepped.out) ≡ c.len-count.result = ap (λ (o : Out g.row.S-Task.Denot). length (out_children o)) c.in-Split.is ∙ sym c.len-count.ensures in (
      refl,
      refl,
      refl,
      λ j can.
          let own : CanGrow g.S.Step.step_of g.S.Step.depth r c.args.job.node (length (out_children c.args.stepped.out)) = subst (λ (x : Run g.row.S-Task.Denot). CanGrow g.S.Step.step_of g.S.Step.depth x c.args.job.node (length (out_children c.args.stepped.out))) (sym c.self.view_is) can in
          let t = c.has_room.ensures.1 (room_kept g.S.Step.step_of g.S.Step.depth i.nodes.items (nodes_of g.S.Step.step_of g.S.Step.depth r) c.args.job.node (length (out_children c.args.stepped.out)) c.len-count.result count c.self.invariant.shows own) in
          let f = c.if-not-has_room.true in absurd (cc),
    )

pub index-requires : goal.index-requires
index-requires g c =
    let j = c.is_job.ensures.0 c.if-not-is_job.false in
    let b = below_length c.self.inside.nodes.items c.args.job.node j.0 j.1 in
    let l = c.self.inside.nodes.ok.0 in
    omega arith

pub grow-requires : goal.grow-requires
grow-requires g c =
    let h = c.has_room.ensures.0 c.if-not-has_room.false in
    let few = h.3 in
    let m : length c.in-Ok.more.items ≡ c.len-count.result =
    ap length c.in-Ok.ensures ∙ (length_fresh c.args.job.node c.as_slice-path.result.now 0 c.as_slice.result.now ∙ (ap length c.as_slice.ensures ∙ sym c.len-count.ensures)) in
    omega arith

pub set_expanded-requires : goal.set_expanded-requires
set_expanded-requires g c =
    let j = c.is_job.ensures.0 c.if-not-is_job.false in
    let b = below_length c.self.inside.nodes.items c.args.job.node j.0 j.1 in
    let l : length c.grow.new.nodes.items ≡ length c.self.inside.nodes.items + length c.in-Ok.more.items = ap length c.in-Ok-grow.ensures.nodes ∙ length-append c.self.inside.nodes.items c.in-Ok.more.items in
    omega arith

pub give_way-requires-clause-room : goal.give_way-requires-clause-room
give_way-requires-clause-room g c =
    let m : length c.in-Ok.more.items ≡ c.len-count.result =
    ap length c.in-Ok.ensures ∙ (length_fresh c.args.job.node c.as_slice-path.result.now 0 c.as_slice.result.now ∙ (ap length c.as_slice.ensures ∙ sym c.len-count.ensures)) in
    let spare = c.in-Ok-grow.ensures.spare in
    omega arith

pub push_reserved-requires : goal.push_reserved-requires
push_reserved-requires g c =
    let m : length c.in-Ok.more.items ≡ c.len-count.result =
    ap length c.in-Ok.ensures ∙ (length_fresh c.args.job.node c.as_slice-path.result.now 0 c.as_slice.result.now ∙ (ap length c.as_slice.ensures ∙ sym c.len-count.ensures)) in
    let count : length (out_children c.args.stepped.out) ≡ c.len-count.result = ap (λ (o : Out g.row.S-Task.Denot). length (out_children o)) c.in-Split.is ∙ sym c.len-count.ensures in
    let two = c.requires.many in
    let cap = c.in-Ok-grow.ensures.capacity in
    let same : length c.grow.new.history.items ≡ length c.self.inside.history.items = ap length c.in-Ok-grow.ensures.history in
    let room = c.self.invariant.room in
    let len = c.grow.new.history.ok.0 in
    omega arith

pub invariant_of-self-2 : goal.invariant_of-self-2
invariant_of-self-2 g c =
    let i = c.self.inside in
    let r : Run g.row.S-Task.Denot = record { root = i.root; rule = i.rule; history = i.history.items } in
    let j = c.is_job.ensures.0 c.if-not-is_job.false in
    let h = c.has_room.ensures.0 c.if-not-has_room.false in
    let x = c.index.result.now in
    let at = get_at i.nodes.items c.args.job.node x (below_length i.nodes.items c.args.job.node j.0 j.1) c.index.ensures in
    let same : j.0 ≡ x = some_same j.0 x (sym j.1 ∙ at) in
    let ts = c.in-Split.children in
    let tsis = sym (ap (λ (o : Out g.row.S-Task.Denot). out_children o) c.in-Split.is) ∙ (ap (λ (s : Stepped g.row.S-Task.Denot). out_children s.out) c.requires.stepped ∙ ap (λ (t : g.row.S-Task.Denot). out_children (g.S.Step.step_of t).out) (j.3 ∙ ap (λ (z : Stored g.row.S-Task.Denot). z.task) same)) in
    let two : 2 ≤ length ts = subst (λ (o : Out g.row.S-Task.Denot). 2 ≤ length (out_children o)) c.in-Split.is c.requires.many in
    let deep : length x.path < 3 = subst (λ (z : Stored g.row.S-Task.Denot). length z.path < 3) (some_same h.0 x (sym h.1 ∙ at)) h.2 in
    let few : length i.nodes.items + length ts ≤ 1000000 = subst (λ (n : ℕ). length i.nodes.items + n ≤ 1000000) c.len-count.ensures h.3 in
    let m : length c.in-Ok.more.items ≡ length ts = ap length c.in-Ok.ensures ∙ (length_fresh c.args.job.node c.as_slice-path.result.now 0 c.as_slice.result.now ∙ ap length c.as_slice.ensures) in
    let big : 5 * (length i.nodes.items + length ts) ≤ vec_capacity c.grow.new.history = subst (λ (n : ℕ). 5 * (length i.nodes.items + n) ≤ vec_capacity c.grow.new.history) m c.in-Ok-grow.ensures.capacity in
    let first : c.len-first.result ≡ length i.nodes.items = (let a = c.len-first.ensures in let b = i.nodes.ok.0 in omega arith) in
    rw (c.give_way.ensures, c.in-Ok-grow.ensures.live, c.push_reserved.ensures.items, c.push_reserved.ensures.capacity, c.set_expanded.ensures, c.in-Ok-grow.ensures.nodes, c.in-Ok-grow.ensures.history, c.in-Ok.ensures, c.as_slice-path.ensures, c.as_slice.ensures)
    (expanded_table g.S.Step.step_of g.S.Step.depth r i.nodes.items (reverse i.live.items) (vec_capacity i.history) c.args.job.node c.len-first.result c.len-count.result _ x ts c.self.invariant at (sym (ap (λ (z : Stored g.row.S-Task.Denot). z.stage) same) ∙ j.2) tsis (own_is g.S.Step.step_of c.args.job.task x.task c.args.stepped ts c.len-count.result c.requires.stepped (j.3 ∙ ap (λ (z : Stored g.row.S-Task.Denot). z.task) same) c.in-Split.is c.len-count.ensures (omega arith)) two deep few first c.len-count.ensures (vec_capacity c.grow.new.history) big)

pub returns : goal.returns
returns g c =
    let i = c.self.inside in
    let r : Run g.row.S-Task.Denot = record { root = i.root; rule = i.rule; history = i.history.items } in
    let j = c.is_job.ensures.0 c.if-not-is_job.false in
    let e = entry.Expanded c.args.job.node in
    let count : length (out_children c.args.stepped.out) ≡ c.len-count.result = ap (λ (o : Out g.row.S-Task.Denot). length (out_children o)) c.in-Split.is ∙ sym c.len-count.ensures in
    let first : c.len-first.result ≡ length i.nodes.items = (let a = c.len-first.ensures in let b = i.nodes.ok.0 in omega arith) in (
      ap (λ (h : _). let x : Run g.row.S-Task.Denot = record { root = i.root; rule = i.rule; history = h } in x) (c.push_reserved.ensures.items ∙ ap (λ l. l ++ e ∷ []) c.in-Ok-grow.ensures.history) ∙ ap (λ (x : Run g.row.S-Task.Denot). longer x e) c.self.view_is,
      (
        sym (c.same_rule.ensures.0 c.if-not-same_rule.false) ∙ ap (λ (x : Run g.row.S-Task.Denot). x.rule) c.self.view_is,
        subst (λ (x : Run g.row.S-Task.Denot). (n : Node g.row.S-Task.Denot) × (slice_get (nodes_of g.S.Step.step_of g.S.Step.depth x) c.args.job.node ≡ Some n) × (n.phase ≡ claimed) × (c.args.job.task ≡ n.task)) c.self.view_is
            (job_shown g.S.Step.step_of g.S.Step.depth i.nodes.items (nodes_of g.S.Step.step_of g.S.Step.depth r) c.args.job.node c.args.job.task c.self.invariant.shows j),
      ),
      subst (λ (x : Run g.row.S-Task.Denot). CanGrow g.S.Step.step_of g.S.Step.depth x c.args.job.node (length (out_children c.args.stepped.out))) c.self.view_is
          (room_shown g.S.Step.step_of g.S.Step.depth i.nodes.items (nodes_of g.S.Step.step_of g.S.Step.depth r) c.args.job.node (length (out_children c.args.stepped.out)) c.len-count.result count c.self.invariant.shows (c.has_room.ensures.0 c.if-not-has_room.false)),
      refl,
      first ∙ (show_length g.S.Step.step_of i.nodes.items (nodes_of g.S.Step.step_of g.S.Step.depth r) c.self.invariant.shows ∙ ap (λ (x : Run g.row.S-Task.Denot). length (nodes_of g.S.Step.step_of g.S.Step.depth x)) c.self.view_is),
      c.len-count.ensures ∙ sym (ap (λ (o : Out g.row.S-Task.Denot). length (out_children o)) c.in-Split.is),
    )

pub give_way-requires-clause-small : goal.give_way-requires-clause-small
give_way-requires-clause-small g c =
    let h = c.has_room.ensures.0 c.if-not-has_room.false in
    let few = h.3 in
    let a = c.len-first.ensures in
    let b = c.self.inside.nodes.ok.0 in
    omega arith

pub invariant_of-self : goal.invariant_of-self
invariant_of-self g c =
    let i = c.self.inside in
    let r : Run g.row.S-Task.Denot = record { root = i.root; rule = i.rule; history = i.history.items } in
    let err = c.in_default-grow.ensures in
    rw (err.history, err.live, err.kept.0) (larger_table g.S.Step.step_of g.S.Step.depth r i.nodes.items (reverse i.live.items) (vec_capacity i.history) (vec_capacity c.grow.new.history) c.self.invariant err.kept.1)

pub returns-in_default : goal.returns-in_default
returns-in_default g c = (refl, refl, refl, λ j can. split_only c.args.stepped.out c.requires.many c.in_default.not-Split)

pub returns-in_default-fresh_nodes : goal.returns-in_default-fresh_nodes
returns-in_default-fresh_nodes g c = (refl, refl, refl)

pub returns-in_default-grow : goal.returns-in_default-grow
returns-in_default-grow g c =
    let i = c.self.inside in (
      ap (λ (h : _). let x : Run g.row.S-Task.Denot = record { root = i.root; rule = i.rule; history = h } in x) c.in_default-grow.ensures.history ∙ c.self.view_is,
      refl,
      refl,
    )
