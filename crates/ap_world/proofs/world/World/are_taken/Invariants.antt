use Rattle.std.proofs.Common.{◌≡◌, length}
use Rattle.ap_world.specs.World.{are_taken}
use Rattle.ap_world.proofs.world.World.are_taken.Given as goal

-- what is left tells
abbrev pub invariant-loop-left : goal.invariant-loop-left
invariant-loop-left l = are_taken l.self.entries l.left ≡ are_taken l.self.entries l.list

abbrev pub decreases-loop-left : goal.decreases-loop-left
decreases-loop-left l = length l.left
