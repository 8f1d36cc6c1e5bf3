use Rattle.std.proofs.Common.{◌≡◌, take}
use Rattle.ap_world.proofs.entries.Entries.copy.Given as goal

-- the entries so far are copied
abbrev pub invariant-loop-entry : goal.invariant-loop-entry
invariant-loop-entry l = l.out ≡ take l.entry-index l.self
