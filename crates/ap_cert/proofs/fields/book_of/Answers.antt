use Rattle.std.proofs.Common.{codes, true≢false, ap, sym, ◌∙◌}
use Rattle.ap_cert.specs.Cert.{book_line, is_book_name}
use Rattle.ap_cert.specs.Reads.{IsName}
use Rattle.ap_cert.proofs.Split.{front_none, front_other}
use Rattle.ap_cert.proofs.fields.book_of.Goals as goal

pub returns-in_err-name : goal.returns-in_err-name
unfolding book_line
returns-in_err-name c = rw c.from_residual.ensures (front_none IsName (λ a. a) (codes "book ") c.args.line.now c.in_err-name.ensures)

pub returns-then-is_book_name : goal.returns-then-is_book_name
unfolding book_line
returns-then-is_book_name c = (sym c.is_book_name.ensures ∙ c.if-is_book_name.true, c.in_ok-name.ensures)

pub returns-else-is_book_name : goal.returns-else-is_book_name
unfolding book_line
returns-else-is_book_name c =
    front_other IsName (λ a. a) (codes "book ") c.args.line.now c.in_ok-name.name.now c.in_ok-name.ensures
    (λ a is e. true≢false (sym is ∙ ap is_book_name (sym e) ∙ sym c.is_book_name.ensures ∙ c.if-is_book_name.false))
