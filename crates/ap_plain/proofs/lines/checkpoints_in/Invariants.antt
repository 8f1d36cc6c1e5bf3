use Rattle.std.proofs.Common.{◌≡◌, ◌++◌, length}
use Rattle.ap_plain.specs.Lines.{checkpoints_in}
use Rattle.ap_plain.proofs.lines.checkpoints_in.Given as goal

-- the checkpoints so far stand before those of the walks that are left
abbrev pub invariant-loop-left : goal.invariant-loop-left
invariant-loop-left g l = l.text ++ checkpoints_in l.left ≡ checkpoints_in l.walks

abbrev pub decreases-loop-left : goal.decreases-loop-left
decreases-loop-left g l = length l.left
