use Rattle.std.proofs.Common.{◌+◌, length, refl, sym, ap, subst, arith}
use Rattle.ap_table.specs.Shown.{nodes_of}
use Rattle.ap_table.specs.Worded.{Worded}
use Rattle.ap_table.specs.Steps.{AreSeats}
use Rattle.ap_table.proofs.Carrying.{put_stranger, put_kept, marks_after, part_after}
use Rattle.ap_table.proofs.Worded.{words_kept, worded_put}
use Rattle.ap_table.proofs.state.TableState.keep_walk.Goals as goal

pub returns-then-not-is_seated-clause-puts : goal.returns-then-not-is_seated-clause-puts
returns-then-not-is_seated-clause-puts g c = (refl, refl, λ j. (let t = c.is_seated.ensures.1 (subst (λ (x : Worded g.row.S-Task.Denot). AreSeats g.S.Step.step_of g.S.Step.depth x.run c.args.job) (sym c.self.view_is) j.1) in let f = c.if-not-is_seated.true in absurd (cc)))

pub mark_words-requires-clause-marks : goal.mark_words-requires-clause-marks
mark_words-requires-clause-marks g c =
    let same = ap length c.history-from.ensures in
    marks_after g.S.Step.step_of g.S.Step.depth c.self.inside.nodes c.put_step.new.self c.parts-job.result.0 (length c.history-from.result.now + 1) c.in-Kept.ensures (omega arith)

pub mark_words-requires-clause-seated : goal.mark_words-requires-clause-seated
mark_words-requires-clause-seated g c =
    let same = ap length c.history-from.ensures in
    part_after g.S.Step.step_of g.S.Step.depth c.self.inside.nodes c.put_step.new.self c.self.inside.seats.items c.parts-job.result.0 (length c.history-from.result.now + 1) c.in-Kept.ensures (omega arith) c.self.invariant.seated

pub returns-in-Stranger-clause-puts : goal.returns-in-Stranger-clause-puts
returns-in-Stranger-clause-puts g c =
    put_stranger g.S.Step.step_of g.S.Step.depth c.args.self.now.run c.put_step.new.self c.self.inside.nodes c.args.job c.with_seats.result c.parts-job.result.0 c.in-Stranger.job c.parts-job.result.1 (ap (λ (x : Worded g.row.S-Task.Denot). x.run) c.self.view_is) c.in-Stranger.ensures c.parts-job.ensures.0 c.parts-job.ensures.1 c.with_seats.ensures

pub returns-in-Kept-clause-puts : goal.returns-in-Kept-clause-puts
returns-in-Kept-clause-puts g c =
    put_kept g.S.Step.step_of g.S.Step.depth c.args.self.now.run c.put_step.new.self c.self.inside.nodes c.args.job c.parts-job.result.0 (ap (λ (x : Worded g.row.S-Task.Denot). x.run) c.self.view_is) c.in-Kept.ensures c.parts-job.ensures.0 (c.is_seated.ensures.0 c.if-not-is_seated.false)

pub invariant_of-self-in-Kept-1 : goal.invariant_of-self-in-Kept-1
invariant_of-self-in-Kept-1 g c = record {
  seated = c.mark_words.ensures.seated;
  worded = c.mark_words.ensures.worded (nodes_of g.S.Step.step_of g.S.Step.depth c.put_step.new.self) (worded_put g.S.Step.step_of g.S.Step.depth c.self.inside.nodes c.put_step.new.self c.self.inside.seats.items c.parts-job.result.0 c.in-Kept.ensures c.self.invariant.worded);
}

pub returns-in-Kept-clause-words : goal.returns-in-Kept-clause-words
returns-in-Kept-clause-words g c = words_kept c.args.self.now c.self.inside.nodes c.self.inside.seats.items c.mark_words.new.seats.items c.self.view_is c.mark_words.ensures.words
