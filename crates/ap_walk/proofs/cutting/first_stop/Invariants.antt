use Rattle.std.proofs.Common.{◌≡◌, take, drop}
use Rattle.ap_walk.specs.Tallies.{IsOpen}
use Rattle.ap_walk.specs.Walks.{before, cut}
use Rattle.ap_walk.proofs.cutting.first_stop.Given as goal

abbrev pub invariant-loop-place : goal.invariant-loop-place
invariant-loop-place g l = record {
  opened : IsOpen l.rule l.tally;
  to_come : cut l.rule l.fn.start l.marks ≡ before (take l.place l.marks) (cut l.rule l.tally (drop l.place l.marks));
}
