use Rattle.std.proofs.Common.{◌≡◌, ◌+◌, ◌-◌, ◌≤◌, ◌<◌, ◌⊎◌, ◌++◌, ℕ, length}
use Rattle.std.specs.List.{slice_get}
use Rattle.ap_table.specs.Ended.{slots_front}
use Rattle.ap_table.proofs.gathering.join.Given as goal

abbrev pub invariant-loop-place : goal.invariant-loop-place
invariant-loop-place g l =
    (l.marks ++ slots_front l.initial.slots.items (l.top - l.place) (l.count - l.place) ≡ l.initial.marks ++ slots_front l.initial.slots.items l.top l.count)
    × ((j : ℕ) → (j + l.place < l.top) ⊎ (l.top ≤ j) → slice_get l.slots.items j ≡ slice_get l.initial.slots.items j)
    × (length l.slots.items ≡ length l.initial.slots.items)
