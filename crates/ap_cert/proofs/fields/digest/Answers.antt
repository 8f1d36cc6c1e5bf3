use Rattle.std.proofs.Common.{sym, ◌∙◌}
use Rattle.ap_cert.proofs.Values.{no_digits, other_digits, told_false}
use Rattle.ap_cert.proofs.fields.digest.Goals as goal

pub returns-in_err-digest : goal.returns-in_err-digest
returns-in_err-digest c =
    rw c.from_residual.ensures (no_digits c.args.digits.now c.from_hex.result c.from_hex.ensures (sym c.ok.ensures.value ∙ c.in_err-digest.was))

pub returns-else-is_written : goal.returns-else-is_written
returns-else-is_written c =
    other_digits c.args.digits.now c.in_ok-digest.digest c.from_hex.result c.from_hex.ensures (sym c.ok.ensures.value ∙ c.in_ok-digest.was)
    (told_false c.is_written.result c.is_written.ensures c.if-is_written.false)
