use Rattle.std.proofs.Common.{◌≡◌, drop}
use Rattle.ap_weaken.specs.Irrelevance.{grown}
use Rattle.ap_weaken.proofs.parts.grow.Given as goal

-- with the literals that are left, what is there becomes the whole
abbrev pub invariant-loop-t : goal.invariant-loop-t
invariant-loop-t l = grown (drop l.t-index l.literals) l.names ≡ grown l.literals l.fn.names
