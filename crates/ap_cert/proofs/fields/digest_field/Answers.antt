use Rattle.ap_cert.specs.Cert.{digest_line, IsDigest}
use Rattle.ap_cert.proofs.Split.{not_headed, no_line}
use Rattle.ap_cert.proofs.Printed.{digest_plain}
use Rattle.ap_cert.proofs.fields.digest_field.Goals as goal

pub returns-in_err-line : goal.returns-in_err-line
returns-in_err-line c = rw c.from_residual.ensures (no_line IsDigest digest_line c.args.text.now c.in_err-line.ensures)

pub returns-in_err-digest : goal.returns-in_err-digest
returns-in_err-digest c =
    rw c.from_residual-in_err-digest.ensures
    (not_headed IsDigest digest_line digest_plain c.args.text.now c.in_ok-line.line.now c.in_ok-line.rest.now c.in_ok-line.ensures c.in_err-digest.ensures)
