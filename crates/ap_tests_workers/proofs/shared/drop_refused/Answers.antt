use Rattle.ap_tests_workers.proofs.Seats.{was_back}
use Rattle.ap_tests_workers.proofs.shared.drop_refused.Goals as goal

pub invariant_of-result : goal.invariant_of-result
invariant_of-result g c = was_back _ _ c.found.inside.job c.in-Stranger.job _ c.put_drop.result c.in-Stranger.is c.put_drop.ensures c.found.invariant
