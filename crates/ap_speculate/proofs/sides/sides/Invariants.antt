use Rattle.std.proofs.Common.{◌≡◌, take}
use Rattle.ap_speculate.specs.Sides.{sided}
use Rattle.ap_speculate.proofs.sides.sides.Given as goal

abbrev pub invariant-loop-thief : goal.invariant-loop-thief
invariant-loop-thief l = (sided l.thief-items ≡ sided l.fn.thieves.items) × (sided l.made.items ≡ take l.thief-index (sided l.thief-items))
