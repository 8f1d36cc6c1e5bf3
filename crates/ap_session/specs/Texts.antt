-- The texts of a session that stand in no book.
use Rattle.std.specs.Prelude.{ℕ, List, [], ◌∷◌, ◌++◌, codes}
use Rattle.ap_names.specs.Printed.{name_text}
use Rattle.ap_table.specs.declared.link.DropNote.{DropNote}
use Rattle.ap_books.specs.Texts.{line}

unfoldable pub usage_text : List ℕ
usage_text =
    line (codes "usage: acl2p [--workers N] [--steps N] [--goals N] [--revert N] [--trace] BOOK ..")
    ++ line (codes "       acl2p [--workers N] --demo N")

-- a goal that was dropped, and the one by which its walk stops
unfoldable pub drop_text : DropNote → List ℕ
drop_text note = codes "Dropped " ++ name_text note.dropped ++ codes " after " ++ name_text note.stopped ++ 10 ∷ []

abbrev pub trace_text : List DropNote → List ℕ
trace_text [] = []
trace_text (note ∷ notes) = drop_text note ++ trace_text notes
