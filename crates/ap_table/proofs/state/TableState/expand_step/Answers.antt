use Rattle.std.proofs.Common.{◌≡◌, length, refl, sym, ap, subst, ◌∙◌}
use Rattle.ap_walk.specs.Visits.{out_children}
use Rattle.ap_walk.specs.declared.act.Out.{Out}
use Rattle.ap_table.specs.Worded.{Worded}
use Rattle.ap_table.specs.Calls.{CanGrow}
use Rattle.ap_table.specs.Steps.{AreSeats}
use Rattle.ap_table.proofs.Carrying.{grow_stranger, grow_family, family_there, after_expand}
use Rattle.ap_table.specs.declared.stored.NodeJob.{NodeJob}
use Rattle.ap_table.proofs.Worded.{worded_expanded, words_grow}
use Rattle.ap_table.proofs.state.TableState.expand_step.Goals as goal

pub returns-then-not-is_seated-clause-grows : goal.returns-then-not-is_seated-clause-grows
returns-then-not-is_seated-clause-grows g c = (refl, refl, refl, λ j can. (let t = c.is_seated.ensures.1 (subst (λ (x : Worded g.row.S-Task.Denot). AreSeats g.S.Step.step_of g.S.Step.depth x.run c.args.job) (sym c.self.view_is) j.1) in let f = c.if-not-is_seated.true in absurd (cc)))

pub returns-then-not-can_grow-clause-grows : goal.returns-then-not-can_grow-clause-grows
returns-then-not-can_grow-clause-grows g c =
    let count : length (out_children c.args.stepped.out) ≡ c.len-count.result = ap (λ (o : Out g.row.S-Task.Denot). length (out_children o)) c.in-Split.is ∙ sym c.len-count.ensures in (
      refl,
      refl,
      refl,
      λ j can.
          let own = subst (λ (x : Worded g.row.S-Task.Denot). CanGrow g.S.Step.step_of g.S.Step.depth x.run c.args.job.node (length (out_children c.args.stepped.out))) (sym c.self.view_is) can in
          let t = c.can_grow.ensures.1 (subst (CanGrow g.S.Step.step_of g.S.Step.depth c.self.inside.nodes c.args.job.node) count own) in
          let f = c.if-not-can_grow.true in absurd (cc),
    )

pub family_of-requires-clause-there : goal.family_of-requires-clause-there
family_of-requires-clause-there g c = c.is_seated.ensures.0 c.if-not-is_seated.false

pub adopt-requires-clause-there : goal.adopt-requires-clause-there
adopt-requires-clause-there g c =
    family_there g.S.Step.step_of g.S.Step.depth c.self.inside.nodes c.expand_step.new.self c.self.inside.seats.items c.family_of.new.seats.items c.parts-job.result.0 c.args.stepped c.in-Family.family c.in-Family.first c.in-Family.count c.in-Family.ensures c.in-Ok.ensures.same c.self.invariant.seated

pub invariant_of-self-in-Family-1 : goal.invariant_of-self-in-Family-1
invariant_of-self-in-Family-1 g c =
    let count : length (out_children c.args.stepped.out) ≡ c.len-count.result = ap (λ (o : Out g.row.S-Task.Denot). length (out_children o)) c.in-Split.is ∙ sym c.len-count.ensures in
    record {
      seated = after_expand g.S.Step.step_of g.S.Step.depth c.self.inside.nodes c.expand_step.new.self c.self.inside.seats.items c.family_of.new.seats.items c.adopt.new.seats.items c.args.job c.parts-job.result.0 c.args.stepped c.in-Ok.own c.in-Ok.rows.items c.in-Family.family c.in-Family.first c.in-Family.count
          c.in-Family.ensures c.parts-job.ensures.0 c.requires.stepped (c.in-Ok.ensures.long ∙ sym count) c.in-Ok.ensures.own c.in-Ok.ensures.rows c.in-Ok.ensures.same c.adopt.ensures c.self.invariant.seated;
      worded = worded_expanded g.S.Step.step_of g.S.Step.depth c.self.inside.nodes c.expand_step.new.self c.self.inside.seats.items c.family_of.new.seats.items c.adopt.new.seats.items c.args.job c.parts-job.result.0 c.args.stepped c.in-Ok.own c.in-Ok.rows.items c.in-Family.family c.in-Family.first c.in-Family.count
          c.in-Family.ensures (ap (λ (q : NodeJob g.row.S-Task.Denot). q.node) c.parts-job.ensures.0) c.in-Ok.ensures.rows c.in-Ok.ensures.same c.adopt.ensures c.self.invariant.seated c.self.invariant.worded;
    }

pub returns-in-Stranger-clause-grows : goal.returns-in-Stranger-clause-grows
returns-in-Stranger-clause-grows g c =
    grow_stranger g.S.Step.step_of g.S.Step.depth c.args.self.now.run c.expand_step.new.self c.self.inside.nodes c.args.job c.with_seats.result c.parts-job.result.0 c.in-Stranger.job c.parts-job.result.1 c.args.stepped c.in-Stranger.stepped (ap (λ (x : Worded g.row.S-Task.Denot). x.run) c.self.view_is) c.in-Stranger.ensures c.parts-job.ensures.0 c.parts-job.ensures.1 c.with_seats.ensures

pub returns-in-Family-clause-grows : goal.returns-in-Family-clause-grows
returns-in-Family-clause-grows g c =
    grow_family g.S.Step.step_of g.S.Step.depth c.args.self.now.run c.expand_step.new.self c.self.inside.nodes c.args.job c.parts-job.result.0 c.args.stepped c.in-Family.family c.in-Family.first c.in-Family.count (ap (λ (x : Worded g.row.S-Task.Denot). x.run) c.self.view_is) c.in-Family.ensures c.parts-job.ensures.0 (c.is_seated.ensures.0 c.if-not-is_seated.false)

pub returns-in-Family-clause-words : goal.returns-in-Family-clause-words
returns-in-Family-clause-words g c =
    words_grow g.S.Step.step_of g.S.Step.depth c.args.self.now c.self.inside.nodes c.expand_step.new.self c.self.inside.seats.items c.family_of.new.seats.items c.adopt.new.seats.items c.parts-job.result.0 c.args.stepped c.in-Ok.own c.in-Ok.rows.items c.in-Family.family c.in-Family.first c.in-Family.count
    c.in-Family.ensures c.self.view_is c.in-Ok.ensures.same c.adopt.ensures c.self.invariant.seated c.self.invariant.worded
