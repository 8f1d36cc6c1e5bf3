use Rattle.std.proofs.Common.{◌≡◌, drop}
use Rattle.ap_world.specs.Rules.{agrees}
use Rattle.ap_rules.proofs.renaming.agrees.Given as goal

-- what is left of the pairs decides
abbrev pub invariant-loop-a : goal.invariant-loop-a
invariant-loop-a l = agrees l.x l.y (drop l.a-index l.pairs) ≡ agrees l.x l.y l.pairs
