use Rattle.std.proofs.Common.{◌≡◌, ◌++◌, drop}
use Rattle.ap_session.specs.Texts.{trace_text}
use Rattle.ap_session.proofs.texts.trace_text.Given as goal

abbrev pub invariant-loop-note : goal.invariant-loop-note
invariant-loop-note l = l.text ++ trace_text (drop l.note-index l.notes) ≡ trace_text l.notes
