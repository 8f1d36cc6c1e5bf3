use Rattle.ap_cert.proofs.Parts.{no_events, no_end, the_tail}
use Rattle.ap_cert.proofs.Values.{told_false}
use Rattle.ap_cert.proofs.reading.tail_of.Goals as goal

pub returns-in_err-events : goal.returns-in_err-events
returns-in_err-events c = rw c.from_residual.ensures (no_events c.args.text.now c.in_err-events.ensures)

pub returns-then-is_same : goal.returns-then-is_same
returns-then-is_same c = the_tail c.args.text.now c.in_ok-events.rest.now c.in_ok-events.events c.in_ok-events.ensures (c.is_same.ensures.0 c.if-is_same.true)

pub returns-else-is_same : goal.returns-else-is_same
returns-else-is_same c =
    no_end c.args.text.now c.in_ok-events.rest.now c.in_ok-events.events c.in_ok-events.ensures (told_false c.is_same.result c.is_same.ensures c.if-is_same.false)
