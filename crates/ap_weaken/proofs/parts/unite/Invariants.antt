use Rattle.std.proofs.Common.{◌≡◌, drop}
use Rattle.ap_weaken.specs.Irrelevance.{united}
use Rattle.ap_weaken.proofs.parts.unite.Given as goal

-- with those that are left, what is there becomes the whole
abbrev pub invariant-loop-y : goal.invariant-loop-y
invariant-loop-y l = united l.names (drop l.y-index l.others) ≡ united l.fn.names l.others
