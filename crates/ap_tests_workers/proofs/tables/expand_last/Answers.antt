use Rattle.ap_tests_workers.proofs.Seats.{held_less, held_stay, ok_as}
use Rattle.ap_tests_workers.proofs.tables.expand_last.Goals as goal

pub returns : goal.returns
returns c =
    ok_as c.expand.result (held_stay c.args.table.now.words c.expand.new.table.words c.expand.ensures c.last.new.jobs (held_less c.args.table.now.words c.args.jobs.now c.last.new.jobs c.in_ok-job.job c.in_ok-job.ensures c.requires).0)
