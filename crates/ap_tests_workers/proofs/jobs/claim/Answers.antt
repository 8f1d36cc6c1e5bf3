use Rattle.ap_tests_workers.proofs.Seats.{of_found}
use Rattle.ap_tests_workers.proofs.jobs.claim.Goals as goal

pub returns-clause-of : goal.returns-clause-of
returns-clause-of g c = of_found c.args.state.now.words c.claim_step.new.self.words c.claim_step.result c.in-Found.job c.in-Found.is c.claim_step.ensures.words c.claim_step.ensures.of
