use Rattle.std.proofs.Common.{◌≡◌, take}
use Rattle.ap_list.specs.Lists.{AnyOf}
use Rattle.ap_table.specs.declared.seats.AncestorSeat.{AncestorSeat}
use Rattle.ap_table.proofs.seating.gives.Given as goal

abbrev pub invariant-loop-i : goal.invariant-loop-i
invariant-loop-i l = AnyOf (λ (s : AncestorSeat). (s.family ≡ l.link.family) × (s.place ≡ l.link.place)) (take l.i l.seats) → ⊥
