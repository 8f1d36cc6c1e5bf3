use Rattle.std.proofs.Common.{sym, ◌∙◌}
use Rattle.ap_cert.proofs.Values.{no_blank, not_named, not_digested}
use Rattle.ap_cert.proofs.fields.named_digest.Goals as goal

pub returns-in_err-name : goal.returns-in_err-name
returns-in_err-name c = rw c.from_residual.ensures (no_blank c.args.line.now c.in_err-name.ensures)

pub returns-then-not-is_book_name : goal.returns-then-not-is_book_name
returns-then-not-is_book_name c =
    not_named c.args.line.now c.in_ok-name.name.now c.in_ok-name.digits.now c.in_ok-name.ensures (sym c.is_book_name.ensures ∙ c.if-not-is_book_name.true)

pub returns-in_err-digest : goal.returns-in_err-digest
returns-in_err-digest c =
    rw c.from_residual-in_err-digest.ensures (not_digested c.args.line.now c.in_ok-name.name.now c.in_ok-name.digits.now c.in_ok-name.ensures c.in_err-digest.ensures)
