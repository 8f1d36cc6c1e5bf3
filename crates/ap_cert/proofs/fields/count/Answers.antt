use Rattle.std.proofs.Common.{sym, ◌∙◌}
use Rattle.std.specs.Str.Parse.{ParsesUnsigned}
use Rattle.ap_cert.proofs.Values.{not_utf8, no_number, other_number, told_false}
use Rattle.ap_cert.proofs.fields.count.Goals as goal

pub returns-in_default : goal.returns-in_default
returns-in_default c = not_utf8 c.args.digits.now c.in_default.ensures.cases.0

pub returns-in_err-count : goal.returns-in_err-count
returns-in_err-count c =
    let read : ParsesUnsigned 32 10 c.args.digits.now c.parse.result = rw c.in-Ok.ensures.cases.0 at c.parse.ensures.value.0 in
    rw c.from_residual.ensures (no_number c.args.digits.now c.parse.result read (sym c.ok.ensures.value ∙ c.in_err-count.was))

pub returns-else-is_decimal : goal.returns-else-is_decimal
returns-else-is_decimal c =
    let read : ParsesUnsigned 32 10 c.args.digits.now c.parse.result = rw c.in-Ok.ensures.cases.0 at c.parse.ensures.value.0 in
    other_number c.args.digits.now c.in_ok-count.count c.parse.result read (sym c.ok.ensures.value ∙ c.in_ok-count.was)
    (told_false c.is_decimal.result c.is_decimal.ensures c.if-is_decimal.false)
