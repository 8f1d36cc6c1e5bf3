use Rattle.std.proofs.Common.{◌≡◌, ◌∷◌, List, take}
use Rattle.ap_table.specs.declared.seats.AncestorSeat.{AncestorSeat}
use Rattle.ap_table.specs.Seated.{AreCut}
use Rattle.ap_table.proofs.seating.cut_all.Given as goal

abbrev pub invariant-loop-at : goal.invariant-loop-at
invariant-loop-at l = record {
  same : l.seats.items ≡ l.fn.seats.items;
  cut : (rest : List AncestorSeat) × (l.cut ≡ l.fn.first ∷ rest) × AreCut l.fn.seats.items (take l.at l.path) rest;
}
