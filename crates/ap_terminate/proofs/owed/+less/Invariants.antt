use Rattle.std.proofs.Common.{length}
use Rattle.ap_terminate.proofs.owed.+less.Given as goal

abbrev pub decreases-less : goal.decreases-less
decreases-less l = length l.xs.now
