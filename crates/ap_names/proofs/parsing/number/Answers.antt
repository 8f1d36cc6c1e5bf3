use Rattle.ap_names.proofs.Parts.{no_number, a_number}
use Rattle.ap_names.proofs.parsing.number.Goals as goal

pub returns-in_err-count : goal.returns-in_err-count
returns-in_err-count c =
    rw c.from_residual.ensures
    (no_number c.args.text.now c.split_digits.result.0.now c.split_digits.result.1.now c.split_digits.ensures.all c.split_digits.ensures.digits c.split_digits.ensures.ends c.in_err-count.ensures)

pub returns : goal.returns
returns c =
    a_number c.args.text.now c.split_digits.result.0.now c.split_digits.result.1.now c.in_ok-count.count c.split_digits.ensures.all c.split_digits.ensures.digits c.split_digits.ensures.ends c.in_ok-count.ensures
