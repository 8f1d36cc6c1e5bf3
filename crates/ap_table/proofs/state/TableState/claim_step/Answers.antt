use Rattle.std.proofs.Common.{ap}
use Rattle.ap_table.specs.declared.stored.Job.{Job}
use Rattle.ap_table.specs.Worded.{Worded}
use Rattle.ap_table.proofs.Carrying.{free_seats, after_claim, found_job}
use Rattle.ap_table.proofs.Worded.{found_of, words_taken, worded_claimed}
use Rattle.ap_table.proofs.state.TableState.claim_step.Goals as goal

pub take_seats-seats-requires : goal.take_seats-seats-requires
take_seats-seats-requires g c =
    let first = c.in-Found.ensures.2.0 in
    let f = free_seats g.S.Step.step_of g.S.Step.depth c.self.inside.nodes.rule _ c.self.inside.seats.items c.in-Found.job.node first.node c.self.invariant.seated first.at first.is_free in
    (f.0, f.1, f.2, f.3)

pub invariant_of-self-in-Found : goal.invariant_of-self-in-Found
invariant_of-self-in-Found g c =
    let first = c.in-Found.ensures.2.0 in
    record {
      seated = after_claim g.S.Step.step_of g.S.Step.depth c.self.inside.nodes c.claim_step.new.self c.self.inside.seats.items c.take_seats-seats.new.seats.items c.in-Found.job.node c.in-Found.ensures.0 c.take_seats-seats.ensures.seats c.self.invariant.seated;
      worded = worded_claimed g.S.Step.step_of g.S.Step.depth c.self.inside.nodes c.claim_step.new.self c.self.inside.seats.items c.take_seats-seats.new.seats.items c.in-Found.job.node first.node c.in-Found.ensures.0 c.take_seats-seats.ensures.seats first.at first.is_free c.self.invariant.worded;
    }

pub returns-in-Found-clause-claims : goal.returns-in-Found-clause-claims
returns-in-Found-clause-claims g c =
    found_job g.S.Step.step_of g.S.Step.depth c.args.self.now.run c.claim_step.new.self c.self.inside.nodes c.self.inside.seats.items c.in-Found.job c.take_seats-seats.result c.with_seats.result (ap (λ (x : Worded g.row.S-Task.Denot). x.run) c.self.view_is) c.in-Found.ensures c.self.invariant.seated c.take_seats-seats.ensures.job c.with_seats.ensures

pub returns-in-Found-clause-words : goal.returns-in-Found-clause-words
returns-in-Found-clause-words g c = words_taken c.args.self.now c.self.inside.nodes c.self.inside.seats.items c.take_seats-seats.new.seats.items c.in-Found.job.node c.self.view_is c.take_seats-seats.ensures.seats

pub returns-in-Found-clause-of : goal.returns-in-Found-clause-of
returns-in-Found-clause-of g c =
    let first = c.in-Found.ensures.2.0 in
    let f = free_seats g.S.Step.step_of g.S.Step.depth c.self.inside.nodes.rule _ c.self.inside.seats.items c.in-Found.job.node first.node c.self.invariant.seated first.at first.is_free in
    found_of c.args.self.now c.self.inside.nodes c.self.inside.seats.items c.with_seats.result c.take_seats-seats.result c.self.view_is (ap (λ (j : Job g.row.S-Task.Denot). j.seats) c.with_seats.ensures)
    (c.self.invariant.worded.of c.in-Found.job.node f.0 c.take_seats-seats.result f.2 (c.take_seats-seats.ensures.job f.0 f.2))
