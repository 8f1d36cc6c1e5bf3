use Rattle.ap_cert.specs.Cert.{events_line}
use Rattle.ap_cert.specs.Reads.{IsCount}
use Rattle.ap_cert.proofs.Split.{not_headed, no_line}
use Rattle.ap_cert.proofs.Printed.{events_plain}
use Rattle.ap_cert.proofs.fields.events_field.Goals as goal

pub returns-in_err-line : goal.returns-in_err-line
returns-in_err-line c = rw c.from_residual.ensures (no_line IsCount events_line c.args.text.now c.in_err-line.ensures)

pub returns-in_err-count : goal.returns-in_err-count
returns-in_err-count c =
    rw c.from_residual-in_err-count.ensures
    (not_headed IsCount events_line events_plain c.args.text.now c.in_ok-line.line.now c.in_ok-line.rest.now c.in_ok-line.ensures c.in_err-count.ensures)
