-- That a goal table may be shared among threads, where its tasks may cross: each type from its parts.
-- Of a word and of a seat of it the caller's proof knows it.
use denote.RattleType.{RattleType}
use denote.Param.Send.{IsSend, IsSync, sendable}
use denote.Param.SendFields.{declared_send}
use Rattle.std.proofs.Crossing.{crosses}
use Rattle.ap_list.specs.contracts.seq.Seq as seq
use Rattle.ap_list.specs.contracts.shared.Shared as shared
use Rattle.ap_walk.specs.declared.step.Step.{Ghosts}
use Rattle.ap_walk.specs.contracts.mark.Mark as mark
use Rattle.ap_walk.specs.contracts.mark.Walked as walked
use Rattle.ap_word.specs.contracts.word.FamilyWord as word
use Rattle.ap_word.specs.contracts.word.WordSeat as seat
use Rattle.ap_table.specs.contracts.seats.AncestorSeat as ancestor
use Rattle.ap_table.specs.contracts.seats.KeptSeat as kept
use Rattle.ap_table.specs.contracts.seats.KeptSeat.TheInside as inside
use Rattle.ap_table.specs.contracts.seats.Beside as beside
use Rattle.ap_table.specs.contracts.stored.Stored as stored
use Rattle.ap_table.specs.contracts.nodes.Nodes as nodes
use Rattle.ap_table.specs.contracts.state.TableState as state
use Rattle.ap_table.specs.contracts.table.Held as held
use Rattle.ap_table.specs.contracts.table.GoalTable as table

seq_send : (R : RattleType) → IsSend R → IsSend (seq.the_row R)
seq_send R r = search (sendable, crosses) depth 40 fits 100000

shared_send : (R : RattleType) → IsSend R → IsSync R → IsSend (shared.the_row R)
shared_send R r s = search (sendable, crosses) depth 40 fits 100000

ancestor_send : IsSend word.the_row → IsSync word.the_row → IsSend seat.the_row → IsSend ancestor.the_row
ancestor_send w ws s = declared_send ancestor.the_type (search (sendable, crosses) depth 40, (search (sendable, crosses) depth 40, (shared_send _ w ws, (s, tt))))

kept_send : IsSend word.the_row → IsSync word.the_row → IsSend seat.the_row → IsSend kept.the_row
kept_send w ws s =
    let i : IsSend inside.the_row = declared_send inside.the_type (shared_send _ w ws, (s, tt)) in
    search (sendable, crosses) depth 40

beside_send : IsSend word.the_row → IsSync word.the_row → IsSend seat.the_row → IsSend beside.the_row
beside_send w ws s =
    let a = seq_send _ (ancestor_send w ws s) in
    let k = kept_send w ws s in
    declared_send beside.the_type (search (sendable, crosses) depth 40, (search (sendable, crosses) depth 40, tt))

mark_send : (R : RattleType) → IsSend R → IsSend (mark.the_row R)
mark_send R r = search (sendable, crosses) depth 40 fits 100000

walked_send : (R : RattleType) → IsSend R → IsSend (walked.the_row R)
walked_send R r = search (sendable, crosses, seq_send, mark_send) depth 40 fits 100000

stored_send : (R : RattleType) → IsSend R → IsSend (stored.the_row R)
stored_send R r = search (sendable, crosses, seq_send, mark_send) depth 40 fits 100000

module _ (S Task : RattleType) (G : Ghosts S.Denot Task.Denot) where
  nodes_send : IsSend Task → IsSend (nodes.the_row S Task G)
  nodes_send t = search (sendable, crosses, stored_send) depth 40 fits 100000

  module _ (w : IsSend word.the_row) (ws : IsSync word.the_row) (s : IsSend seat.the_row) where
    state_send : IsSend Task → IsSend (state.the_row S Task G)
    state_send t = search (sendable, crosses, nodes_send, beside_send) depth 40 fits 100000

    held_send : IsSend Task → IsSend (held.the_row S Task G)
    held_send t = search (sendable, crosses, state_send) depth 40 fits 100000

    pub table_sync : IsSend Task → IsSync (table.the_row S Task G)
    table_sync t = search (sendable, crosses, held_send) depth 40 fits 100000
