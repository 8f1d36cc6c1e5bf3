use Rattle.std.proofs.Common.{refl, sym, ap, subst}
use Rattle.ap_table.specs.Worded.{Worded}
use Rattle.ap_table.specs.Steps.{AreSeats, Drops}
use Rattle.ap_table.proofs.Carrying.{after_drop, after_none, drop_stranger, drop_kept}
use Rattle.ap_table.proofs.Worded.{worded_dropped, worded_none}
use Rattle.ap_table.proofs.state.TableState.drop_step.Goals as goal
use Rattle.ap_table.proofs.state.TableState.drop_step.Goals.{in-Stranger, in-Kept}

pub returns-then-not-is_seated-clause-drops : goal.returns-then-not-is_seated-clause-drops
returns-then-not-is_seated-clause-drops g c = (refl, refl, λ j l. (let t = c.is_seated.ensures.1 (subst (λ (x : Worded g.row.S-Task.Denot). AreSeats g.S.Step.step_of g.S.Step.depth x.run c.args.job) (sym c.self.view_is) j.1) in let f = c.if-not-is_seated.true in absurd (cc)))

pub invariant_of-self : goal.invariant_of-self
invariant_of-self g c =
    elim c.match-drop_step.branch [
      | in-Stranger w ↦ record {
        seated = after_none g.S.Step.step_of g.S.Step.depth c.self.inside.nodes c.drop_step.new.self c.self.inside.seats.items w.in-Stranger.ensures.0 c.self.invariant.seated;
        worded = worded_none g.S.Step.step_of g.S.Step.depth c.self.inside.nodes c.drop_step.new.self c.self.inside.seats.items w.in-Stranger.ensures.0 c.self.invariant.worded;
      }
      | in-Kept w ↦ record {
        seated = after_drop g.S.Step.step_of g.S.Step.depth c.self.inside.nodes c.drop_step.new.self c.self.inside.seats.items c.parts-job.result.0.node c.args.license w.in-Kept.ensures.0 c.self.invariant.seated;
        worded = worded_dropped g.S.Step.step_of g.S.Step.depth c.self.inside.nodes c.drop_step.new.self c.self.inside.seats.items c.parts-job.result.0 c.args.license w.in-Kept.ensures c.self.invariant.worded;
      }
    ]

pub returns-clause-drops : goal.returns-clause-drops
returns-clause-drops g c =
    elim c.match-drop_step.branch [
      | in-Stranger w ↦
          subst (Drops g.S.Step.step_of g.S.Step.depth c.args.self.now.run c.drop_step.new.self c.args.job c.args.license) (sym w.result-is)
          (drop_stranger g.S.Step.step_of g.S.Step.depth c.args.self.now.run c.drop_step.new.self c.self.inside.nodes c.args.job w.with_seats.result c.parts-job.result.0 w.in-Stranger.job c.parts-job.result.1 c.args.license (ap (λ (x : Worded g.row.S-Task.Denot). x.run) c.self.view_is) w.in-Stranger.ensures c.parts-job.ensures.0 c.parts-job.ensures.1 w.with_seats.ensures)
      | in-Kept w ↦
          subst (Drops g.S.Step.step_of g.S.Step.depth c.args.self.now.run c.drop_step.new.self c.args.job c.args.license) (sym w.result-is)
          (drop_kept g.S.Step.step_of g.S.Step.depth c.args.self.now.run c.drop_step.new.self c.self.inside.nodes c.args.job c.parts-job.result.0 c.args.license (ap (λ (x : Worded g.row.S-Task.Denot). x.run) c.self.view_is) w.in-Kept.ensures c.parts-job.ensures.0 (c.is_seated.ensures.0 c.if-not-is_seated.false))
    ]
