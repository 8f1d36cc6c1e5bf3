use Rattle.ap_cert.proofs.Parts.{no_digest}
use Rattle.ap_cert.proofs.reading.front_of.Goals as goal

pub returns-in_err-digest : goal.returns-in_err-digest
returns-in_err-digest c =
    rw c.from_residual-in_err-digest.ensures (no_digest c.args.text.now c.in_ok-name.name.now c.in_ok-name.rest.now c.in_ok-name.ensures c.in_err-digest.ensures)
