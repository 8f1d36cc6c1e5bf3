use Rattle.ap_tests_workers.proofs.Seats.{held_less, held_more, still_of}
use Rattle.ap_tests_workers.proofs.tables.see.Goals as goal

pub returns : goal.returns
returns c ws held =
    let one = held_less ws c.args.jobs.now c.last.new.jobs c.in_ok-job.job c.in_ok-job.ensures held in
    held_more ws c.last.new.jobs c.push.new.self c.seen.new.job c.in_ok-push.ensures.ok one.0 (still_of ws c.in_ok-job.job.seats c.seen.new.job.seats c.in_ok-found.ensures one.1)
