-- How the events of a book are worked, one after another: in a first pass, and in a second one beside it, from which what
-- is local is left out.
use Rattle.std.specs.Prelude.{◌≡◌, ℕ, Bool, true, false, List, [], ◌∷◌, Option, Some, None}
use Rattle.ap_list.specs.Lists.{Each}
use Rattle.ap_world.specs.Alike.{Covers}
use Rattle.ap_world.specs.Ground.{ground}
use Rattle.ap_world.specs.Sound.{HasFunctions}
use Rattle.ap_world.specs.World.{Shown, function_of, are_distinct}
use Rattle.ap_reader.specs.declared.form.Form.{Form}
use Rattle.ap_books.specs.Bodies.{Turn}
use Rattle.ap_plain.specs.declared.limits.Limits.{Limits}
use Rattle.ap_plain.specs.Ends.{Done, Told, passed}
use Rattle.ap_events.specs.Books.{Earlier, worked, worked_again}
use Rattle.ap_events.specs.Nested.{second_by as ended_by}
use Rattle.ap_session.specs.declared.second.Second.{Second}
use Rattle.ap_session.specs.declared.second.Second.TheVariants.{SoFar, Failed}

-- the world that a book begins with: the ground world, with everything enabled
unfoldable pub start : Shown
start = record { entries = ground; theory = record { disabled = [] } }

-- the world of no entries
abbrev pub bare : Shown
bare = record { entries = []; theory = record { disabled = [] } }

-- what an event is worked in: the limits of its attempts, the kept worlds of earlier books, the world, and the second pass
-- of the events so far
pub record Working : Type 0 where
  pub limits : Limits
  pub earlier : Earlier
  pub world : Shown
  pub second : Second

abbrev pub working_in : Limits → Earlier → Shown → Second → Working
working_in limits earlier world second = record { limits = limits; earlier = earlier; world = world; second = second }

-- a book's first event is worked in the world that each begins with, in both passes
abbrev pub begin : Limits → Earlier → Working
begin limits earlier = working_in limits earlier start (SoFar start)

-- a second pass, by what its event prints, and by the world after it; it ends where an event is refused
abbrev pub second_by : List ℕ → Option Shown → Second
second_by text None = Failed text
second_by text (Some v) = SoFar v

-- the second pass of one event more
abbrev pub second_after : Earlier → Form → Second → Second
second_after earlier f (Failed text) = Failed text
second_after earlier f (SoFar v) = second_by (worked_again earlier v f).text (worked_again earlier v f).next

-- a refused event leaves the world as it was
abbrev pub is_refused : Option Shown → Bool
is_refused None = true
is_refused (Some w) = false

abbrev pub after : Working → Form → Option Shown → Working
after s f None = s
after s f (Some w) = record s { world = w; second = second_after s.earlier f s.second }

abbrev pub turn_of : Working → Form → Done → Turn Working Told
turn_of s f d = record { text = d.text; refused = is_refused d.next; next = after s f d.next; log = d.told }

abbrev pub admits : Working → Form → Turn Working Told
admits s f = turn_of s f (worked s.limits s.earlier s.world f)

-- at a book's end, as at that of an `encapsulate`: the second pass prints what it refused, or tells the world that it gave
abbrev pub end_text : Second → List ℕ
end_text (SoFar v) = []
end_text (Failed text) = (ended_by (record { text = text; next = None; told = [] }) None).text

abbrev pub has_failed : Second → Bool
has_failed (SoFar v) = false
has_failed (Failed text) = true

abbrev pub end_told : Second → List Told
end_told (SoFar v) = passed v ∷ []
end_told (Failed text) = []

abbrev pub ends : Working → Turn Working Told
ends s = record { text = end_text s.second; refused = has_failed s.second; next = s; log = end_told s.second }

-- what a call showed of an event that was done again: its text where it was refused, and else the next world
abbrev pub Leaves : Done → Shown → Option (List ℕ) → Type 0
Leaves d w None = d.next ≡ Some w
Leaves d w (Some text) = (d.next ≡ None) × (d.text ≡ text)

-- the world that a second pass gave
abbrev pub world_of : Second → Option Shown
world_of (SoFar v) = Some v
world_of (Failed text) = None

-- of the second pass's world, where it didn't fail
abbrev pub IfSoFar : (Shown → Type 0) → Second → Type 0
IfSoFar P (SoFar v) = P v
IfSoFar P (Failed text) = Unit {0}

-- what is kept while a book is worked: the first pass has all that the second one has, masks aside
pub record Stands (s : Working) : Type 0 where
  pub functions : HasFunctions (function_of s.world.entries)
  pub again : IfSoFar (λ v. HasFunctions (function_of v.entries)) s.second
  pub covered : IfSoFar (λ v. Covers v.entries s.world.entries) s.second
  pub distinct : Each (λ p. are_distinct p.1.entries ≡ true) s.earlier
