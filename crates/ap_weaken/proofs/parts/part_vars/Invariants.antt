use Rattle.std.proofs.Common.{◌≡◌}
use Rattle.ap_weaken.specs.Irrelevance.{reached, part_vars}
use Rattle.ap_weaken.proofs.parts.part_vars.Given as goal

-- the rounds that are left lead to the part
abbrev pub invariant-loop-left : goal.invariant-loop-left
invariant-loop-left l = reached l.literals l.left l.names ≡ part_vars l.literals l.t

abbrev pub decreases-loop-left : goal.decreases-loop-left
decreases-loop-left l = l.left
