use Rattle.std.proofs.Common.{◌≡◌, Some, length}
use Rattle.std.specs.List.{slice_get}
use Rattle.ap_speculate.proofs.Seats.{done_looked, still_at}
use Rattle.ap_tests_workers.proofs.jobs.put.Goals as goal

pub put_step-requires-clause-looked : goal.put_step-requires-clause-looked
put_step-requires-clause-looked g c =
    let done = rw c.in-Done.is at c.in_ok-walked.ensures.done in
    done_looked (length c.in-Done.walked.marks) c.args.job.seats c.run_job.new.job.seats done.1

pub put_step-requires-clause-words : goal.put_step-requires-clause-words
put_step-requires-clause-words g c =
    still_at (λ k t. slice_get c.args.state.now.words k ≡ Some (Some t)) c.args.job.seats c.run_job.new.job.seats c.in_ok-walked.ensures.stays.seats c.requires
