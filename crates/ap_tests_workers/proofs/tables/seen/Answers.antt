use Rattle.ap_tests_workers.proofs.Seats.{ats_last}
use Rattle.ap_tests_workers.proofs.tables.seen.Goals as goal

pub returns : goal.returns
returns c = ats_last c.pop.new.self c.args.job.now.seats c.push.new.self c.in-Some.seat c.look-found.new.seat c.in-Some.ensures c.in_ok-push.ensures.ok c.look-found.ensures.same.1 c.look-found.ensures.same.2
