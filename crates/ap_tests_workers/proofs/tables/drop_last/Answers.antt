use Rattle.ap_tests_workers.proofs.Seats.{held_less, drop_back, ok_same}
use Rattle.ap_tests_workers.proofs.tables.drop_last.Goals as goal

pub returns : goal.returns
returns c =
    let ws = c.args.table.now.words in
    let one = held_less ws c.args.jobs.now c.last.new.jobs c.in_ok-job.job c.in_ok-job.ensures c.requires in
    ok_same c.is_kept.result ws c.drop_step-taken.new.self.words c.is_kept.new.jobs c.drop_step-taken.ensures.words
    (c.is_kept.ensures ws (drop_back ws c.in_ok-job.job c.drop_step-taken.result _ _ _ _ _ c.drop_step-taken.ensures.drops one.1) one.0)
