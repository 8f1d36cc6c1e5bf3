use Rattle.std.proofs.Common.{◌≤◌, drop}
use Rattle.ap_books.specs.Bodies.{worked}
use Rattle.ap_books.proofs.Showing.{SoFar}
use Rattle.ap_plain.specs.Ends.{Told}
use Rattle.ap_session.specs.Working.{Working, admits, ends}
use Rattle.ap_session.specs.Admitting.{AdmittingSeen, Behind}
use Rattle.ap_session.proofs.book.show_events.Given as goal

-- the text of the events so far was gained, and what is left gives the rest; what is behind what is left from here is
-- behind all from the start
abbrev pub invariant-loop-form : goal.invariant-loop-form
invariant-loop-form g l = record {
  so_far : SoFar Working Told (g.S.Sink.content l.fn.sink) (g.S.Sink.content l.sink) (worked admits ends l.forms l.fn.admitting.working)
      (worked admits ends (drop l.form-index l.forms) l.admitting.working);
  onward : (b : AdmittingSeen) → Behind l.admitting b (worked admits ends (drop l.form-index l.forms) l.admitting.working).log
      → Behind l.fn.admitting b (worked admits ends l.forms l.fn.admitting.working).log;
  later : g.S.Sink.faults l.fn.sink ≤ g.S.Sink.faults l.sink;
}
