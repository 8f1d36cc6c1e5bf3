use denote.Param.Send.{IsSend, IsSync, sendable}
use Rattle.std.proofs.Crossing.{crosses}
use Rattle.ap_term.specs.contracts.tree.Term as term
use Rattle.ap_value.specs.contracts.value.Value as value
use Rattle.ap_tests_threads.proofs.Sent.{plan_sync, task_send}
use Rattle.ap_tests_threads.proofs.crossing.waterfall_by_two.Goals as goal

-- a task holds terms, a theory and a plan that it refers to
pub speculate-requires-send-S-Task : goal.speculate-requires-send-S-Task
speculate-requires-send-S-Task g c κs within =
    let t : IsSend term.the_row = c.terms_shown.ensures.term_send in
    let ts : IsSync term.the_row = c.terms_shown.ensures.term_sync in
    let vs : IsSync value.the_row = c.terms_shown.ensures.value_sync in
    search (sendable, task_send) depth 20

-- a step refers to a plan
pub speculate-requires-sync-S : goal.speculate-requires-sync-S
speculate-requires-sync-S g c κs within =
    let ts : IsSync term.the_row = c.terms_shown.ensures.term_sync in
    let vs : IsSync value.the_row = c.terms_shown.ensures.value_sync in
    let p = plan_sync ts vs in
    search (sendable, crosses) depth 20
