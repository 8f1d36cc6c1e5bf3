use Rattle.std.proofs.Common.{inr}
use Rattle.ap_cert.specs.Cert.{WellWritten}
use Rattle.ap_cert.specs.Reads.{Reads, ReadsNone, body_text}
use Rattle.ap_cert.proofs.Whole.{no_body, the_cert, held_against}
use Rattle.ap_cert.proofs.reading.answer.Goals as goal

pub returns-in_default : goal.returns-in_default
returns-in_default c =
    let none : ReadsNone WellWritten body_text c.in_ok-body.body.now = rw c.in_default.is at c.in_ok-cert.ensures in
    inr (no_body c.args.text.now c.in_ok-body.body.now c.args.book.now c.in_ok-body.ensures.ok none)

pub returns : goal.returns
returns c =
    let reads : Reads WellWritten body_text c.in_ok-body.body.now c.in-Some.cert = rw c.in-Some.is at c.in_ok-cert.ensures in
    held_against c.args.text.now c.args.book.now c.in-Some.cert c.matched.result
    (the_cert c.args.text.now c.in_ok-body.body.now c.in-Some.cert c.in_ok-body.ensures.ok reads) c.matched.ensures.ok c.matched.ensures.err
