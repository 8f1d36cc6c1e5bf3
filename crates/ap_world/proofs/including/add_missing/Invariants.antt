use Rattle.std.proofs.Common.{◌≡◌, take}
use Rattle.ap_world.specs.Including.{with_missing}
use Rattle.ap_world.proofs.including.add_missing.Given as goal

-- what is missing of the entries so far is added
abbrev pub invariant-loop-entry : goal.invariant-loop-entry
invariant-loop-entry l = l.entries ≡ with_missing l.initial.entries (take l.entry-index l.list)
