use Rattle.std.proofs.Common.{take}
use Rattle.ap_rules.specs.Carried.{Carried}
use Rattle.ap_rules.proofs.carrying.Carrier.of.Given as goal

-- the rules of the entries so far
abbrev pub invariant-loop-entry : goal.invariant-loop-entry
invariant-loop-entry l = Carried (take l.entry-index l.entries) l.carrier
