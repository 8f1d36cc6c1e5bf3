use Rattle.ap_speculate.proofs.Seats.{same_job}
use Rattle.ap_speculate.proofs.job.run_stepped.Goals as goal

pub returns-in_err-name_of-clause-stays : goal.returns-in_err-name_of-clause-stays
returns-in_err-name_of-clause-stays g c = same_job c.args.job.now

pub returns-in_err-goal-clause-stays : goal.returns-in_err-goal-clause-stays
returns-in_err-goal-clause-stays g c = same_job c.args.job.now
