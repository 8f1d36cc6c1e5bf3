use denote.Param.Send.{IsSend, sendable}
use Rattle.std.proofs.Crossing.{crosses}
use Rattle.ap_term.specs.contracts.tree.Term as term
use Rattle.ap_value.specs.contracts.value.Value as value
use Rattle.ap_tests_threads.proofs.Sent.{world_send}
use Rattle.ap_tests_threads.proofs.crossing.counted_elsewhere.Goals as goal

-- the closure owns a world
pub spawn-requires-send-F : goal.spawn-requires-send-F
spawn-requires-send-F g c κs within =
    let t : IsSend term.the_row = c.terms_shown.ensures.term_send in
    let v : IsSend value.the_row = c.terms_shown.ensures.value_send in
    let w = world_send t v in
    search (sendable, crosses) depth 20
