use Rattle.ap_speculate.proofs.Seats.{same_job}
use Rattle.ap_speculate.proofs.job.walk_job.Goals as goal

pub returns-in_err-task-clause-stays : goal.returns-in_err-task-clause-stays
returns-in_err-task-clause-stays g c = same_job c.args.job.now
