-- Jobs that are held, whose seats look at the words that a table keeps.
use Rattle.std.specs.Prelude.{ℕ, Option, List, [], ◌∷◌}
use Rattle.ap_list.specs.Lists.{Each}
use Rattle.ap_word.specs.Seats.{TableId, seat_table}
use Rattle.ap_table.specs.Worded.{IsOf}
use Rattle.ap_table.specs.declared.seats.AncestorSeat.{AncestorSeat}
use Rattle.ap_table.specs.declared.stored.Job.{Job}
use Rattle.ap_table.specs.declared.stored.Taken.{Taken}
use Rattle.ap_table.specs.declared.stored.Taken.TheVariants as taken

-- so of one job, and of those that are held
abbrev pub SeatsOf : {T : Type 0} → List (Option TableId) → Job T → Type 0
SeatsOf ws j = Each (IsOf ws) j.seats

abbrev pub AreHeld : {T : Type 0} → List (Option TableId) → List (Job T) → Type 0
AreHeld ws js = Each (SeatsOf ws) js

-- the job that comes back, if one does
abbrev pub ComesOf : {T : Type 0} → List (Option TableId) → Taken T → Type 0
ComesOf ws taken.Kept = Unit {0}
ComesOf ws (taken.Stranger back) = SeatsOf ws back

-- a seat's family, with the word that the seat looks at
abbrev pub at : AncestorSeat → ℕ × TableId
at s = (s.family, seat_table s.seat)

abbrev pub ats : List AncestorSeat → List (ℕ × TableId)
ats [] = []
ats (s ∷ ss) = at s ∷ ats ss
