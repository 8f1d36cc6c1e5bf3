use Rattle.std.proofs.Common.{length, take, ◌-◌, ◌≤◌}
use Rattle.ap_outside.specs.Gains.{Gained}
use Rattle.ap_session.proofs.putting.put_whole.Given as goal

abbrev pub invariant-loop-done : goal.invariant-loop-done
invariant-loop-done g l =
    let content = g.S.Sink.content in
    let faults = g.S.Sink.faults in
    record {
      within : l.done ≤ length l.piece;
      gained : Gained (content l.fn.sink) (content l.sink) (take l.done l.piece);
      later : faults l.fn.sink ≤ faults l.sink;
    }

abbrev pub decreases-loop-done : goal.decreases-loop-done
decreases-loop-done g l = length l.piece - l.done
