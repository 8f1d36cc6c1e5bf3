use Rattle.std.proofs.Common.{codes}
use Rattle.hex.specs.Hex.{encode_lower}
use Rattle.ap_cert.specs.Cert.{digest_line, IsDigest}
use Rattle.ap_cert.proofs.Split.{front_none, front_reads}
use Rattle.ap_cert.proofs.fields.sha256_of.Goals as goal

pub returns-in_err-after : goal.returns-in_err-after
unfolding digest_line
returns-in_err-after c = rw c.from_residual.ensures (front_none IsDigest encode_lower (codes "sha256 ") c.args.line.now c.in_err-after.ensures)

pub returns : goal.returns
unfolding digest_line
returns c = front_reads IsDigest encode_lower (λ a. a) (codes "sha256 ") c.args.line.now c.in_ok-after.field-0.now c.in_ok-after.ensures c.digest.result c.digest.ensures
