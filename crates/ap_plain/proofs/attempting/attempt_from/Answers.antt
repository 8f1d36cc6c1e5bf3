use denote.Param.Send.{IsSend, IsSync, sendable}
use Rattle.std.proofs.Crossing.{crosses}
use Rattle.ap_term.specs.contracts.tree.Term as term
use Rattle.ap_value.specs.contracts.value.Value as value
use Rattle.ap_plain.proofs.Sent.{plan_sync, task_send}
use Rattle.ap_plain.proofs.attempting.attempt_from.Goals as goal

-- a task holds terms, a theory and a plan that it refers to
pub prove-requires-send-P-Task : goal.prove-requires-send-P-Task
prove-requires-send-P-Task g c κs within =
    let t : IsSend term.the_row = c.terms_cross.ensures.term_send in
    let ts : IsSync term.the_row = c.terms_cross.ensures.term_sync in
    let vs : IsSync value.the_row = c.terms_cross.ensures.value_sync in
    search (sendable, task_send) depth 20

-- a step refers to a plan
pub prove-requires-sync-P : goal.prove-requires-sync-P
prove-requires-sync-P g c κs within =
    let p = plan_sync c.terms_cross.ensures.term_sync c.terms_cross.ensures.value_sync in
    search (sendable, crosses) depth 20

-- where the attempt is `Qed` its root is good
pub returns-clause-good : goal.returns-clause-good
returns-clause-good g c = λ qed. c.in_ok-done.ensures.good qed
