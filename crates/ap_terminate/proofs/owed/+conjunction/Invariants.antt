use Rattle.std.proofs.Common.{length}
use Rattle.ap_terminate.proofs.owed.+conjunction.Given as goal

abbrev pub decreases-conjunction : goal.decreases-conjunction
decreases-conjunction l = length l.tests.now
