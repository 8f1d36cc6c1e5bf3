use Rattle.ap_tests_workers.proofs.Seats.{was_still, of_some}
use Rattle.ap_tests_workers.proofs.shared.put.Goals as goal

pub put-requires-clause-words : goal.put-requires-clause-words
put-requires-clause-words g c = was_still _ _ c.found.inside.job.seats c.in-Some.job.seats (of_some _ c.in_ok-seen.seen c.in-Some.job c.in-Some.is c.in_ok-seen.ensures.same) c.found.invariant
