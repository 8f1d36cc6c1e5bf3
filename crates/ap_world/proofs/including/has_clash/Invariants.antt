use Rattle.std.proofs.Common.{◌≡◌, length}
use Rattle.ap_world.specs.Including.{has_clash}
use Rattle.ap_world.proofs.including.has_clash.Given as goal

-- what is left tells
abbrev pub invariant-loop-left : goal.invariant-loop-left
invariant-loop-left l = has_clash l.entries l.left ≡ has_clash l.entries l.list

abbrev pub decreases-loop-left : goal.decreases-loop-left
decreases-loop-left l = length l.left
