use Rattle.ap_cert.proofs.Parts.{no_front, no_tail, the_body}
use Rattle.ap_cert.proofs.reading.cert_of.Goals as goal

pub returns-in_default : goal.returns-in_default
returns-in_default c = no_front c.args.text.now c.in_default.ensures

pub returns-in_default-tail_of : goal.returns-in_default-tail_of
returns-in_default-tail_of c =
    let front = c.in-Some.front in
    no_tail c.args.text.now front.0.now front.1 front.2.now c.in_ok-includes.includes c.in_ok-includes.rest.now c.in-Some.ensures c.in_ok-includes.ensures c.in_default-tail_of.ensures

pub returns : goal.returns
returns c =
    let front = c.in-Some.front in
    rw c.in_ok-cert.ensures
    (the_body c.args.text.now front.0.now front.1 front.2.now c.in_ok-includes.includes c.in_ok-includes.rest.now c.in-Some-tail_of.events c.in-Some.ensures c.in_ok-includes.ensures
    c.in-Some-tail_of.ensures)
