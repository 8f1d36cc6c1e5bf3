use Rattle.ap_tests_workers.proofs.Seats.{still_of, put_back, of_some}
use Rattle.ap_tests_workers.proofs.tables.put.Goals as goal

pub put_step-requires-clause-words : goal.put_step-requires-clause-words
put_step-requires-clause-words c = still_of c.args.table.now.words c.args.job.seats c.in-Some.job.seats (of_some _ c.in_ok-found.found c.in-Some.job c.in-Some.is c.in_ok-found.ensures.same) c.requires

pub returns-clause-back : goal.returns-clause-back
returns-clause-back c =
    put_back c.args.table.now.words c.args.job.seats c.in-Some.job c.put_step.result _ _ _ _ c.put_step.ensures.puts (of_some _ c.in_ok-found.found c.in-Some.job c.in-Some.is c.in_ok-found.ensures.same) c.requires
