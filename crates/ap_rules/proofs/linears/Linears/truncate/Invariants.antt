use Rattle.std.proofs.Common.{◌≡◌, length, take}
use Rattle.ap_rules.proofs.linears.Linears.truncate.Given as goal

-- the first rules are still there
abbrev pub invariant-loop-self : goal.invariant-loop-self
invariant-loop-self l = take l.kept l.self ≡ take l.kept l.initial.self

abbrev pub decreases-loop-self : goal.decreases-loop-self
decreases-loop-self l = length l.self
