use Rattle.std.proofs.Common.{length}
use Rattle.ap_kernel.proofs.splits.+with_part.Given as goal

abbrev pub decreases-with_part : goal.decreases-with_part
decreases-with_part l = length l.at.now
