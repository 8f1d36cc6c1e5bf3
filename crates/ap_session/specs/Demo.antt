-- The demo: the book that it works, and what is printed of it.
use Rattle.std.specs.Prelude.{ℕ, ◌+◌, Bool, true, false, cond, List, [], ◌∷◌, ◌++◌, codes, decimal}
use Rattle.ap_outside.specs.declared.library.BookRead.{BookRead}
use Rattle.ap_outside.specs.declared.library.BookRead.TheVariants.{Found}
use Rattle.ap_reader.specs.declared.form.Form.{Form}
use Rattle.ap_books.specs.Bodies.{Turn}
use Rattle.ap_books.specs.Demo.{demo_text}
use Rattle.ap_books.specs.Texts.{line}
use Rattle.ap_plain.specs.Ends.{Told, goals_in}
use Rattle.ap_session.specs.declared.demo.Tally.{Tally}
use Rattle.ap_session.specs.Working.{Working, admits}

-- the demo's book of n functions, as it would be read
abbrev pub demo_read : ℕ → BookRead
demo_read n = Found (record { 0 = demo_text n })

-- how many of a book's events are admitted: those before the first that is refused
abbrev pub admitted_of : List Form → Working → ℕ
admitted_of [] s = 0
admitted_of (f ∷ fs) s = cond (admits s f).refused 0 (admitted_of fs (admits s f).next + 1)

-- one event more, with the goals that its attempts visited
abbrev pub tally_by : Tally → Bool → ℕ → Tally
tally_by t refused goals = record { events = t.events + cond refused 0 1; goals = t.goals + goals }

abbrev pub counted : Tally → Turn Working Told → Tally
counted t u = tally_by t u.refused (goals_in u.log)

-- by its number of functions, how many events are admitted, how many goals were visited, and whether the book is certified
unfoldable pub demo_line : ℕ → ℕ → ℕ → Bool → List ℕ
demo_line n events goals true =
    codes "Demo " ++ decimal n ++ codes " events " ++ decimal events ++ codes " goals " ++ decimal goals ++ line (codes " certified")
demo_line n events goals false =
    codes "Demo " ++ decimal n ++ codes " events " ++ decimal events ++ codes " goals " ++ decimal goals ++ line (codes " not certified")
