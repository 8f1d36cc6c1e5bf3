use Rattle.std.proofs.Common.{◌≡◌, take}
use Rattle.ap_world.proofs.same.same_entries.Given as goal

-- the lists so far are the same
abbrev pub invariant-loop-i : goal.invariant-loop-i
invariant-loop-i l = take l.i l.a ≡ take l.i l.b
