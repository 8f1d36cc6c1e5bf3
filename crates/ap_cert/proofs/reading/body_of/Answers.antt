use Rattle.ap_cert.proofs.Values.{told_false}
use Rattle.ap_cert.proofs.Whole.{not_title, not_version, titled, behind_ok, behind_err}
use Rattle.ap_cert.proofs.reading.body_of.Goals as goal

pub returns-in_default-clause-err : goal.returns-in_default-clause-err
returns-in_default-clause-err c book = not_title c.args.text.now c.split_line.result.0.now book c.split_line.ensures.first c.in_default.ensures

pub returns-then-not-is_same-clause-err : goal.returns-then-not-is_same-clause-err
returns-then-not-is_same-clause-err c book =
    not_version c.args.text.now c.split_line.result.0.now book c.in-Some.version.now c.split_line.ensures.first c.in-Some.ensures
    (told_false c.is_same.result c.is_same.ensures c.if-not-is_same.true)

pub returns-clause-ok : goal.returns-clause-ok
returns-clause-ok c =
    behind_ok c.args.text.now c.split_line.result.0.now (λ x. x.now) c.split_line.result.1 c.ok_or.result c.ok_or.ensures.value c.split_line.ensures.rest
    (titled c.split_line.result.0.now c.in-Some.version.now c.in-Some.ensures (c.is_same.ensures.0 c.if-not-is_same.false))

pub returns-clause-err : goal.returns-clause-err
returns-clause-err c =
    behind_err c.args.text.now c.split_line.result.0.now (λ x. x.now) c.split_line.result.1 c.ok_or.result c.ok_or.ensures.value c.split_line.ensures.rest c.split_line.ensures.first
    (titled c.split_line.result.0.now c.in-Some.version.now c.in-Some.ensures (c.is_same.ensures.0 c.if-not-is_same.false))
