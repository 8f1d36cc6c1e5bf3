-- An event's end in a world alone.
use Rattle.std.specs.Prelude.{◌≡◌, ℕ, Bool, cond, List, Option, Some, None}
use Rattle.ap_world.specs.World.{Shown}
use Rattle.ap_events.specs.declared.end.EventEnd.{EventEnd}
use Rattle.ap_table.specs.declared.link.DropNote.{DropNote}

-- the parts of an end
abbrev pub text_in : EventEnd → List ℕ
text_in (EventEnd.Admitted w text drops) = text
text_in (EventEnd.Refused w text drops) = text

abbrev pub next_in : EventEnd → Option Shown
next_in (EventEnd.Admitted w text drops) = Some w
next_in (EventEnd.Refused w text drops) = None

abbrev pub drops_in : EventEnd → List DropNote
drops_in (EventEnd.Admitted w text drops) = drops
drops_in (EventEnd.Refused w text drops) = drops

abbrev pub world_in : EventEnd → Shown
world_in (EventEnd.Admitted w text drops) = w
world_in (EventEnd.Refused w text drops) = w

-- the world that was handed in, where the event is refused
abbrev pub Kept : Shown → EventEnd → Type 0
Kept w (EventEnd.Admitted v text drops) = Unit {0}
Kept w (EventEnd.Refused v text drops) = v ≡ w

-- an outcome with the world that was left
abbrev pub end_of : Bool → Shown → List ℕ → List DropNote → EventEnd
end_of admitted v text drops = cond admitted (EventEnd.Admitted v text drops) (EventEnd.Refused v text drops)
