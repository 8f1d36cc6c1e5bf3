use Rattle.ap_cert.specs.Reads.{included}
use Rattle.ap_cert.proofs.Parts.{begun, include_read}
use Rattle.ap_cert.proofs.reading.includes_of.Goals as goal

pub loop-found-init : goal.loop-found-init
loop-found-init c = rw c.new-includes.ensures (tt, begun c.args.text.now)

pub loop-found-preserved : goal.loop-found-preserved
loop-found-preserved c =
    let found = c.in-Some.found in
    include_read c.args.text.now c.loop-found.includes c.loop-found.rest.now (included found.0.now found.1) c.in_ok-include.include found.2.now c.push.new.self c.loop-found.invariant c.in-Some.ensures
    c.in_ok-include.ensures c.in_ok-push.ensures.ok
