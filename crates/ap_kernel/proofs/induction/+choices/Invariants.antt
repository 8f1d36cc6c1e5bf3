use Rattle.std.proofs.Common.{length}
use Rattle.ap_kernel.proofs.induction.+choices.Given as goal

abbrev pub decreases-choices : goal.decreases-choices
decreases-choices l = length l.lists.now
