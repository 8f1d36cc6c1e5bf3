use Rattle.std.proofs.Common.{◌≡◌, ◌<◌, length}
use Rattle.std.specs.Prelude.{◌⊎◌}
use Rattle.ap_walk.specs.declared.rule.End.{End}
use Rattle.ap_walk.specs.Tallies.{IsOpen}
use Rattle.ap_walk.specs.Walks.{before, cut, full}
use Rattle.ap_speculate.specs.Jobs.{Both}
use Rattle.ap_speculate.proofs.Seats.{LookedBy}
use Rattle.ap_speculate.proofs.Walking.{IsFirst, marks_left}
use Rattle.ap_speculate.proofs.job.walk.Given as goal

abbrev pub invariant-loop-task : goal.invariant-loop-task
invariant-loop-task g l = record {
  through : l.so_far.end ≡ End.Through;
  opened : IsOpen l.rule l.so_far.tally;
  to_come : before l.so_far.marks (cut l.rule l.so_far.tally (marks_left g.S.Step.step_of g.S.Step.depth l.left.items)) ≡ full g.S.Step.step_of g.S.Step.depth l.rule l.fn.task;
  some : (0 < length l.so_far.marks) ⊎ (0 < length l.left.items);
  seats : Both (LookedBy (length l.so_far.marks)) l.fn.seats l.seats;
  first : IsFirst g.S.Step.step_of l.fn.task l.left.items l.taken;
}

abbrev pub decreases-loop-task : goal.decreases-loop-task
decreases-loop-task g l = length (marks_left g.S.Step.step_of g.S.Step.depth l.left.items)
