use Rattle.std.proofs.Common.{◌≡◌, drop}
use Rattle.ap_weaken.specs.Irrelevance.{have_common}
use Rattle.ap_weaken.proofs.parts.have_common.Given as goal

-- those that are left decide
abbrev pub invariant-loop-y : goal.invariant-loop-y
invariant-loop-y l = have_common l.names (drop l.y-index l.others) ≡ have_common l.names l.others
