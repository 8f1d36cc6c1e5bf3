use Rattle.std.proofs.Common.{drop}
use Rattle.ap_books.specs.Bodies.{worked}
use Rattle.ap_session.specs.Working.{admits, ends}
use Rattle.ap_session.specs.Admitting.{AdmittingSeen, Behind}
use Rattle.ap_session.proofs.Demoing.{Left}
use Rattle.ap_session.proofs.demo.count_events.Given as goal

-- the events so far were counted; what is behind what is left from here is behind all from the start
abbrev pub invariant-loop-form : goal.invariant-loop-form
invariant-loop-form g l = record {
  left : Left l.forms (drop l.form-index l.forms) l.fn.admitting.working l.admitting.working l.fn.tally l.tally;
  onward : (b : AdmittingSeen) → Behind l.admitting b (worked admits ends (drop l.form-index l.forms) l.admitting.working).log
      → Behind l.fn.admitting b (worked admits ends l.forms l.fn.admitting.working).log;
}
