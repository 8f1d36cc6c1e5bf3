use Rattle.std.proofs.Common.{take}
use Rattle.ap_rules.specs.Carried.{Carried}
use Rattle.ap_rules.proofs.carrying.Carrier.add_from.Given as goal

-- the rules of the entries so far
abbrev pub invariant-loop-place : goal.invariant-loop-place
invariant-loop-place l = Carried (take l.start l.entries) l.initial.self → Carried (take l.place l.entries) l.self
