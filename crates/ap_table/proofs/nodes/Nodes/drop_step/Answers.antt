use Rattle.std.proofs.Common.{reverse, ◌≡◌, Some, refl, sym, ap, subst, ◌∙◌, arith}
use Rattle.std.specs.List.{slice_get}
use Rattle.std.specs.Vec.{vec_capacity}
use Rattle.ap_list.specs.Lists.{AnyOf}
use Rattle.ap_table.specs.Core.{Node, claimed}
use Rattle.ap_table.specs.Sound.{Names}
use Rattle.ap_table.specs.Shown.{Run, nodes_of, stage_room, turns}
use Rattle.ap_table.specs.Calls.{longer, IsNodeJob, IsLicense}
use Rattle.ap_table.specs.declared.stored.Entry.TheVariants as entry
use Rattle.ap_table.specs.declared.stored.Stage.TheVariants as stage
use Rattle.ap_table.proofs.After.{after_sound}
use Rattle.ap_table.proofs.Dropping.{licensed_word}
use Rattle.ap_table.proofs.Licences.{by_known, by_word}
use Rattle.ap_table.proofs.Moving.{dropped_table}
use Rattle.ap_table.proofs.Showing.{some_same, below_length, room_alter, job_shown, job_kept, license_kept, license_shown}
use Rattle.ap_table.proofs.nodes.Nodes.drop_step.Goals as goal

pub returns-then-not-same_rule : goal.returns-then-not-same_rule
returns-then-not-same_rule g c = (
  refl,
  refl,
  λ j l.
      let t = c.same_rule.ensures.1 (ap (λ (x : Run g.row.S-Task.Denot). x.rule) c.self.view_is ∙ sym j.0) in
      let f = c.if-not-same_rule.true in absurd (cc),
)

pub returns-then-not-is_job : goal.returns-then-not-is_job
returns-then-not-is_job g c =
    let i = c.self.inside in
    let r : Run g.row.S-Task.Denot = record { root = i.root; rule = i.rule; history = i.history.items } in (
      refl,
      refl,
      λ j l.
          let own : IsNodeJob g.S.Step.step_of g.S.Step.depth r c.args.job = subst (λ (x : Run g.row.S-Task.Denot). IsNodeJob g.S.Step.step_of g.S.Step.depth x c.args.job) (sym c.self.view_is) j in
          let t = c.is_job.ensures.1 (job_kept g.S.Step.step_of g.S.Step.depth i.nodes.items (nodes_of g.S.Step.step_of g.S.Step.depth r) c.args.job.node c.args.job.task c.self.invariant.shows own.1) in
          let f = c.if-not-is_job.true in absurd (cc),
    )

pub returns-then-not-is_licensed : goal.returns-then-not-is_licensed
returns-then-not-is_licensed g c =
    let i = c.self.inside in
    let r : Run g.row.S-Task.Denot = record { root = i.root; rule = i.rule; history = i.history.items } in (
      refl,
      refl,
      λ j l.
          let own : IsLicense g.S.Step.step_of g.S.Step.depth r c.args.job.node c.args.license = subst (λ (x : Run g.row.S-Task.Denot). IsLicense g.S.Step.step_of g.S.Step.depth x c.args.job.node c.args.license) (sym c.self.view_is) l in
          let t = c.is_licensed.ensures.tells.1 (license_kept g.S.Step.step_of i.nodes.items (nodes_of g.S.Step.step_of g.S.Step.depth r) c.args.job.node c.args.license c.self.invariant.shows
          (by_word g.S.Step.step_of g.S.Step.depth g.met.S.Step.tells g.met.S.Step.deeper r i.nodes.items (reverse i.live.items) (vec_capacity i.history) c.self.invariant c.args.job.node c.args.license own)) in
          let f = c.if-not-is_licensed.true in absurd (cc),
    )

pub set_stage-requires : goal.set_stage-requires
set_stage-requires g c =
    let j = c.is_job.ensures.0 c.if-not-is_job.false in
    below_length c.self.inside.nodes.items c.args.job.node j.0 j.1

pub push_reserved-requires : goal.push_reserved-requires
push_reserved-requires g c =
    let j = c.is_job.ensures.0 c.if-not-is_job.false in
    let i = c.self.inside in
    let set = room_alter i.nodes.items c.args.job.node j.0 (λ x. record x { stage = stage.Dropped c.args.license }) j.1 in
    let four : stage_room j.0.stage ≡ 4 = ap stage_room j.2 in
    let had = c.self.invariant.room in
    let cap = c.self.invariant.reserved in
    let len = i.history.ok.0 in
    omega arith

pub invariant_of-self : goal.invariant_of-self
invariant_of-self g c =
    let i = c.self.inside in
    let step = g.S.Step.step_of in
    let depth = g.S.Step.depth in
    let r : Run g.row.S-Task.Denot = record { root = i.root; rule = i.rule; history = i.history.items } in
    let j = c.is_job.ensures.0 c.if-not-is_job.false in
    let l = license_shown step i.nodes.items (nodes_of step depth r) c.args.job.node c.args.license c.self.invariant.shows (c.is_licensed.ensures.tells.0 c.if-not-is_licensed.false) in
    let sound = after_sound step depth i.rule g.met.S.Step.tells g.met.S.Step.deeper i.root (turns i.history.items) c.self.invariant.allowed in
    rw (c.take_out.ensures, c.push_reserved.ensures.items, c.push_reserved.ensures.capacity, c.set_stage.ensures)
    (dropped_table step depth r i.nodes.items (reverse i.live.items) (vec_capacity i.history) c.args.job.node j.0 c.args.license c.self.invariant j.1 j.2
    (λ n at. licensed_word step depth i.rule (nodes_of step depth r) n c.args.license sound c.is_licensed.ensures.small
    (subst (λ (x : Node g.row.S-Task.Denot). AnyOf (Names c.args.license) x.path) (some_same l.0.0 n (sym l.0.1 ∙ at)) l.0.2) l.1))

pub returns : goal.returns
returns g c =
    let i = c.self.inside in
    let step = g.S.Step.step_of in
    let depth = g.S.Step.depth in
    let r : Run g.row.S-Task.Denot = record { root = i.root; rule = i.rule; history = i.history.items } in
    let j = c.is_job.ensures.0 c.if-not-is_job.false in
    let e = entry.Dropped c.args.job.node c.args.license in
    let l = license_shown step i.nodes.items (nodes_of step depth r) c.args.job.node c.args.license c.self.invariant.shows (c.is_licensed.ensures.tells.0 c.if-not-is_licensed.false) in (
      ap (λ (h : _). let x : Run g.row.S-Task.Denot = record { root = i.root; rule = i.rule; history = h } in x) c.push_reserved.ensures.items ∙ ap (λ (x : Run g.row.S-Task.Denot). longer x e) c.self.view_is,
      (
        sym (c.same_rule.ensures.0 c.if-not-same_rule.false) ∙ ap (λ (x : Run g.row.S-Task.Denot). x.rule) c.self.view_is,
        subst (λ (x : Run g.row.S-Task.Denot). (n : Node g.row.S-Task.Denot) × (slice_get (nodes_of step depth x) c.args.job.node ≡ Some n) × (n.phase ≡ claimed) × (c.args.job.task ≡ n.task)) c.self.view_is
            (job_shown step depth i.nodes.items (nodes_of step depth r) c.args.job.node c.args.job.task c.self.invariant.shows j),
      ),
      subst (λ (x : Run g.row.S-Task.Denot). IsLicense step depth x c.args.job.node c.args.license) c.self.view_is
          (by_known step depth g.met.S.Step.tells g.met.S.Step.deeper r i.nodes.items (reverse i.live.items) (vec_capacity i.history) c.self.invariant c.args.job.node c.args.license c.is_licensed.ensures.small l),
    )
