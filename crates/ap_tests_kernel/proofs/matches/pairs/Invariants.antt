use Rattle.std.proofs.Common.{length}
use Rattle.ap_tests_kernel.proofs.matches.pairs.Given as goal

abbrev pub decreases-loop-left : goal.decreases-loop-left
decreases-loop-left l = length l.left
