use Rattle.std.proofs.Common.{◌≤◌, drop}
use Rattle.ap_books.specs.Bodies.{worked, Reached}
use Rattle.ap_books.proofs.Showing.{SoFar}
use Rattle.ap_books.proofs.body.show_events.Given as goal

-- the text of the forms so far was gained, and what is left gives the rest; what is reached from here is reached from the start
abbrev pub invariant-loop-form : goal.invariant-loop-form
invariant-loop-form g l = record {
  so_far : SoFar g.A.Admitter.State g.A.Admitter.Log (g.S.Sink.content l.fn.sink) (g.S.Sink.content l.sink) (worked g.A.Admitter.admits g.A.Admitter.ends l.forms (g.A.Admitter.state l.fn.admitter))
      (worked g.A.Admitter.admits g.A.Admitter.ends (drop l.form-index l.forms) (g.A.Admitter.state l.admitter));
  onward : (b : g.row.A.Denot) → Reached g.A.Admitter.state g.A.Admitter.admits g.A.Admitter.ends g.A.Admitter.links g.A.Admitter.rests (drop l.form-index l.forms) l.admitter b
      → Reached g.A.Admitter.state g.A.Admitter.admits g.A.Admitter.ends g.A.Admitter.links g.A.Admitter.rests l.forms l.fn.admitter b;
  later : g.S.Sink.faults l.fn.sink ≤ g.S.Sink.faults l.sink;
}
