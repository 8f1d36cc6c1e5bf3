use Rattle.std.proofs.Common.{◌≡◌, ◌-◌, length, take}
use Rattle.ap_table.specs.Ended.{Slots}
use Rattle.ap_table.proofs.gathering.pieces.Given as goal

abbrev pub invariant-loop-place : goal.invariant-loop-place
invariant-loop-place g l =
    (l.nodes.items ≡ take (length l.initial.nodes.items - l.place) l.initial.nodes.items)
    × (length l.slots.items ≡ l.place)
    × Slots l.initial.nodes.items (length l.initial.nodes.items - l.place) l.slots.items
