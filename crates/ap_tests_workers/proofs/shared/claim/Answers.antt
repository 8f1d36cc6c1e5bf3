use Rattle.ap_tests_workers.proofs.Seats.{was_found}
use Rattle.ap_tests_workers.proofs.shared.claim.Goals as goal

pub invariant_of-result : goal.invariant_of-result
invariant_of-result g c = was_found _ _ c.claim.result c.in-Found.job c.in-Found.is c.claim.ensures.of
