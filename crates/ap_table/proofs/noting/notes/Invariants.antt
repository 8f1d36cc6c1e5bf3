use Rattle.std.proofs.Common.{take}
use Rattle.ap_table.specs.Ended.{AreNotes, IsKeptNote}
use Rattle.ap_table.proofs.noting.notes.Given as goal

abbrev pub invariant-loop-place : goal.invariant-loop-place
invariant-loop-place g l = AreNotes (IsKeptNote g.S.Step.name l.nodes.items) (take l.place l.history) l.notes
