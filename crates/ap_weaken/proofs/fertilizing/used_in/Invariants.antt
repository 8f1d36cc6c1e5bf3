use Rattle.std.proofs.Common.{◌≡◌, ◌-◌, length}
use Rattle.ap_weaken.specs.Fertilize.{first_number, can_use, used_in}
use Rattle.ap_weaken.proofs.fertilizing.used_in.Given as goal

-- the places that are left have the answer
abbrev pub invariant-loop-j : goal.invariant-loop-j
invariant-loop-j l = first_number (can_use l.c l.i) (length l.c.0 - l.j) l.j ≡ used_in l.c l.i
