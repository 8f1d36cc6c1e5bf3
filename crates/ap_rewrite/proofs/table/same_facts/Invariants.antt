use Rattle.std.proofs.Common.{◌≡◌, take}
use Rattle.ap_rewrite.proofs.table.same_facts.Given as goal

-- the facts so far are the same
abbrev pub invariant-loop-i : goal.invariant-loop-i
invariant-loop-i l = take l.i l.a ≡ take l.i l.b
