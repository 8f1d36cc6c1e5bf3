use Rattle.std.proofs.Common.{◌≡◌, length, take}
use Rattle.ap_world.proofs.entries.Entries.truncate.Given as goal

-- the first entries are still there
abbrev pub invariant-loop-self : goal.invariant-loop-self
invariant-loop-self l = take l.count l.self ≡ take l.count l.initial.self

abbrev pub decreases-loop-self : goal.decreases-loop-self
decreases-loop-self l = length l.self
