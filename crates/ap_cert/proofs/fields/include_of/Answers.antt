use Rattle.std.proofs.Common.{codes}
use Rattle.ap_cert.specs.Cert.{include_line, IsIncluded}
use Rattle.ap_cert.specs.Reads.{book_and_digest, included}
use Rattle.ap_cert.proofs.Split.{front_none, front_reads}
use Rattle.ap_cert.proofs.fields.include_of.Goals as goal

pub returns-in_err-after : goal.returns-in_err-after
unfolding include_line
returns-in_err-after c = rw c.from_residual.ensures (front_none IsIncluded book_and_digest (codes "include ") c.args.line.now c.in_err-after.ensures)

pub returns : goal.returns
unfolding include_line
returns c =
    front_reads IsIncluded book_and_digest (λ p. included p.0.now p.1) (codes "include ") c.args.line.now c.in_ok-after.field-0.now c.in_ok-after.ensures c.named_digest.result c.named_digest.ensures
