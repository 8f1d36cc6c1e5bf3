use Rattle.std.proofs.Common.{length}
use Rattle.ap_tests_events.proofs.working.+all_events.Given as goal

abbrev pub decreases-all_events : goal.decreases-all_events
decreases-all_events g l = length l.list.now
