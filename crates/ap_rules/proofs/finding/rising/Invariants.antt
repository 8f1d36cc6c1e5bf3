use Rattle.std.proofs.Common.{◌≡◌, take}
use Rattle.ap_rules.specs.Linear.{may_match}
use Rattle.ap_rules.specs.Placed.{places_from}
use Rattle.ap_rules.proofs.finding.rising.Given as goal

-- the places of the rules that may match the atoms so far
abbrev pub invariant-loop-atom : goal.invariant-loop-atom
invariant-loop-atom l = l.places ≡ places_from (may_match (take l.atom-index l.atoms)) 0 l.rules
