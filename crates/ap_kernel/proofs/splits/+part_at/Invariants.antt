use Rattle.std.proofs.Common.{length}
use Rattle.ap_kernel.proofs.splits.+part_at.Given as goal

abbrev pub decreases-part_at : goal.decreases-part_at
decreases-part_at l = length l.at.now
