use Rattle.std.proofs.Common.{take}
use Rattle.ap_list.specs.Lists.{Each}
use Rattle.ap_table.specs.Seated.{Gives}
use Rattle.ap_table.proofs.seating.give_all.Given as goal

abbrev pub invariant-loop-i : goal.invariant-loop-i
invariant-loop-i l = Each (Gives l.seats) (take l.i l.path)
