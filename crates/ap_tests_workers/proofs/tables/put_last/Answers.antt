use Rattle.ap_tests_workers.proofs.Seats.{held_less, ok_same}
use Rattle.ap_tests_workers.proofs.tables.put_last.Goals as goal

pub returns : goal.returns
returns c =
    let ws = c.args.table.now.words in
    let one = held_less ws c.args.jobs.now c.last.new.jobs c.in_ok-job.job c.in_ok-job.ensures c.requires in
    ok_same c.is_kept.result ws c.put.new.table.words c.is_kept.new.jobs c.put.ensures.words (c.is_kept.ensures ws c.in_ok-taken.ensures.back one.0)

pub put-requires : goal.put-requires
put-requires c = (held_less c.args.table.now.words c.args.jobs.now c.last.new.jobs c.in_ok-job.job c.in_ok-job.ensures c.requires).1
