use Rattle.std.proofs.Common.{◌≡◌}
use Rattle.ap_speculate.specs.Sides.{owned, sided}
use Rattle.ap_speculate.proofs.sides.deal_in.Given as goal

abbrev pub invariant-loop : goal.invariant-loop
invariant-loop l = sided l.row.items ≡ owned l.owns.items
