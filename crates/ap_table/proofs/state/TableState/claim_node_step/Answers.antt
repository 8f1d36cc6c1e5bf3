use Rattle.std.proofs.Common.{ap, sym, subst, ◌∙◌}
use Rattle.std.specs.List.{slice_get}
use Rattle.ap_table.specs.Shown.{Run, nodes_of}
use Rattle.ap_table.specs.Calls.{longer}
use Rattle.ap_table.specs.Sound.{IsFree}
use Rattle.ap_table.specs.declared.stored.Entry.TheVariants as entry
use Rattle.ap_table.specs.declared.stored.Job.{Job}
use Rattle.ap_table.specs.Worded.{Worded}
use Rattle.ap_table.proofs.Worded.{found_of, words_taken, worded_claimed}
use Rattle.ap_table.proofs.Carrying.{free_seats, after_claim, found_at}
use Rattle.ap_table.proofs.state.TableState.claim_node_step.Goals as goal

pub take_seats-seats-requires : goal.take_seats-seats-requires
take_seats-seats-requires g c =
    let d = c.in-Found.ensures in
    let n = d.3 in
    let at = ap (slice_get (nodes_of g.S.Step.step_of g.S.Step.depth c.self.inside.nodes)) d.1 ∙ n.1 in
    let f = free_seats g.S.Step.step_of g.S.Step.depth c.self.inside.nodes.rule _ c.self.inside.seats.items c.in-Found.job.node n.0 c.self.invariant.seated at n.2 in
    (f.0, f.1, f.2, f.3)

pub invariant_of-self-in-Found : goal.invariant_of-self-in-Found
invariant_of-self-in-Found g c =
    let d = c.in-Found.ensures in
    let n = d.3 in
    let at = ap (slice_get (nodes_of g.S.Step.step_of g.S.Step.depth c.self.inside.nodes)) d.1 ∙ n.1 in
    let is = d.0 ∙ ap (λ k. longer c.self.inside.nodes (entry.Claimed k)) (sym d.1) in
    record {
      seated = after_claim g.S.Step.step_of g.S.Step.depth c.self.inside.nodes c.claim_node_step.new.self c.self.inside.seats.items c.take_seats-seats.new.seats.items c.in-Found.job.node is c.take_seats-seats.ensures.seats c.self.invariant.seated;
      worded = worded_claimed g.S.Step.step_of g.S.Step.depth c.self.inside.nodes c.claim_node_step.new.self c.self.inside.seats.items c.take_seats-seats.new.seats.items c.in-Found.job.node n.0 is c.take_seats-seats.ensures.seats at n.2 c.self.invariant.worded;
    }

pub returns-in-Found-clause-claims : goal.returns-in-Found-clause-claims
returns-in-Found-clause-claims g c =
    found_at g.S.Step.step_of g.S.Step.depth c.args.self.now.run c.claim_node_step.new.self c.self.inside.nodes c.self.inside.seats.items c.args.node c.in-Found.job c.take_seats-seats.result c.with_seats.result (ap (λ (x : Worded g.row.S-Task.Denot). x.run) c.self.view_is) c.in-Found.ensures c.self.invariant.seated c.take_seats-seats.ensures.job c.with_seats.ensures

pub returns-in-Found-clause-words : goal.returns-in-Found-clause-words
returns-in-Found-clause-words g c = words_taken c.args.self.now c.self.inside.nodes c.self.inside.seats.items c.take_seats-seats.new.seats.items c.in-Found.job.node c.self.view_is c.take_seats-seats.ensures.seats

pub returns-in-Found-clause-of : goal.returns-in-Found-clause-of
returns-in-Found-clause-of g c =
    let d = c.in-Found.ensures in
    let n = d.3 in
    let at = ap (slice_get (nodes_of g.S.Step.step_of g.S.Step.depth c.self.inside.nodes)) d.1 ∙ n.1 in
    let f = free_seats g.S.Step.step_of g.S.Step.depth c.self.inside.nodes.rule _ c.self.inside.seats.items c.in-Found.job.node n.0 c.self.invariant.seated at n.2 in
    found_of c.args.self.now c.self.inside.nodes c.self.inside.seats.items c.with_seats.result c.take_seats-seats.result c.self.view_is (ap (λ (j : Job g.row.S-Task.Denot). j.seats) c.with_seats.ensures)
    (c.self.invariant.worded.of c.in-Found.job.node f.0 c.take_seats-seats.result f.2 (c.take_seats-seats.ensures.job f.0 f.2))
