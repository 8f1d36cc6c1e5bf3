use Rattle.std.proofs.Common.{◌≡◌, drop}
use Rattle.ap_world.specs.Narrowing.{cut}
use Rattle.ap_types.proofs.facts.cut.Given as goal

-- what is left of the facts cuts the rest
abbrev pub invariant-loop-fact : goal.invariant-loop-fact
invariant-loop-fact l = cut (drop l.fact-index l.facts) l.t l.out ≡ cut l.facts l.t l.mask
