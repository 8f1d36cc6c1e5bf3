use Rattle.ap_cert.specs.Cert.{book_line}
use Rattle.ap_cert.specs.Reads.{IsName}
use Rattle.ap_cert.proofs.Split.{not_headed, no_line}
use Rattle.ap_cert.proofs.Printed.{book_plain}
use Rattle.ap_cert.proofs.fields.book_field.Goals as goal

pub returns-in_err-line : goal.returns-in_err-line
returns-in_err-line c = rw c.from_residual.ensures (no_line IsName book_line c.args.text.now c.in_err-line.ensures)

pub returns-in_err-name : goal.returns-in_err-name
returns-in_err-name c =
    rw c.from_residual-in_err-name.ensures
    (not_headed IsName book_line book_plain c.args.text.now c.in_ok-line.line.now c.in_ok-line.rest.now c.in_ok-line.ensures c.in_err-name.ensures)
