use denote.Exit.{yes}
use denote.Param.{param}
use denote.Param.Send.{IsSend, IsSync, sendable}
use Rattle.std.proofs.Crossing.{crosses}
use Rattle.ap_word.specs.contracts.word.FamilyWord as word
use Rattle.ap_word.specs.contracts.word.WordSeat as seat
use Rattle.ap_table.specs.contracts.table.GoalTable as table
use Rattle.ap_speculate.specs.contracts.owners.Owner as owner
use Rattle.ap_speculate.specs.contracts.hands.Hands as hands
use Rattle.ap_speculate.specs.contracts.hands.Left as left
use Rattle.std.specs.contracts.sync.Mutex as mutex
use Rattle.ap_speculate.specs.contracts.counts.Counts as counts
use Rattle.ap_speculate.proofs.Crossing.{table_sync}
use Rattle.ap_speculate.proofs.starting.+work.Goals as goal

-- what the thread's closure holds: what it begins with, and a scope, a handle, a step, a table, what is left, counts and a gate, all by reference
pub spawn_scoped-started-requires-send-F : goal.spawn_scoped-started-requires-send-F
spawn_scoped-started-requires-send-F g t c κs within =
    let facts = c.may_cross.ensures in
    let word_send : IsSend word.the_row = record { owned = facts.word.owned; leaving = λ k. facts.word.leaving yes } in
    let word_sync : IsSync word.the_row = record { shared = facts.shared_word.shared } in
    let seat_send : IsSend seat.the_row = record { owned = facts.seat.owned; leaving = λ k. facts.seat.leaving yes } in
    let hands_send : IsSend (hands.the_row (param 2 g.row.D) g.D.Deques) = record { owned = facts.hands.owned; leaving = λ k. facts.hands.leaving yes } in
    let own_send : IsSend (owner.the_row (param 2 g.row.D) g.D.Deques) = record { owned = facts.own.owned; leaving = λ k. facts.own.leaving yes } in
    let lefts : IsSync (mutex.the_row (left.the_row (param 2 g.row.D) g.D.Deques)) = record { shared = facts.left.shared } in
    let counted : IsSync counts.the_row = search (sendable, crosses) depth 40 fits 100000 in
    let handle : IsSync (param 4 g.row.R) = record { shared = facts.handle.shared } in
    let step : IsSync (param 1 g.row.S) = record { shared = facts.step.shared } in
    let gate : IsSync (param 3 g.row.G) = record { shared = facts.gate.shared } in
    let task : IsSend (param 5 g.row.S-Task) = record { owned = facts.task.owned; leaving = λ k. facts.task.leaving k } in
    let shared : IsSync (table.the_row (param 1 g.row.S) (param 5 g.row.S-Task) g.S.Step) =
    table_sync (param 1 g.row.S) (param 5 g.row.S-Task) g.S.Step word_send word_sync seat_send task in
    search (sendable, crosses) depth 60 fits 100000
