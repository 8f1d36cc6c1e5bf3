use Rattle.ap_tests_workers.specs.Held.{AreHeld}
use Rattle.ap_tests_workers.proofs.tables.all_go.Given as goal

abbrev pub invariant-loop-is_first : goal.invariant-loop-is_first
invariant-loop-is_first l = record {
  jobs : AreHeld l.table.words l.jobs;
  others : AreHeld l.other.words l.others;
}
