use Rattle.std.proofs.Common.{length}
use Rattle.ap_translate.proofs.build.+nested.Given as goal

abbrev pub decreases-nested : goal.decreases-nested
decreases-nested l = length l.path.now
