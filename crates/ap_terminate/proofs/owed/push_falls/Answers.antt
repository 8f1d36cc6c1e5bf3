use Rattle.std.proofs.Common.{◌≡◌, [], ◌∷◌, ◌++◌, map, ap, ◌∙◌, arith, rules}
use Rattle.ap_world.specs.Recursion.{decrease}
use Rattle.ap_terminate.specs.Distinct.{clause_of}
use Rattle.ap_terminate.proofs.Falling.{next_made}
use Rattle.ap_terminate.proofs.owed.push_falls.Goals as goal

pub loop-call-preserved : goal.loop-call-preserved
loop-call-preserved c =
    let falls = decrease c.args.formals.now c.args.m.now c.args.case.now in
    let added : c.push.new.self ≡ c.loop-call.out ++ c.in_ok-decrease.field-0 ∷ [] = search rules in
    next_made falls clause_of c.args.calls.now c.loop-call.call-index c.call-item.result c.loop-call.out c.push.new.self (c.args.out.now ++ map clause_of (map falls c.args.calls.now))
    c.in_ok-decrease.field-0 (omega arith) c.call-item.is (c.in_ok-decrease.ensures ∙ ap (λ x. clause_of (falls x)) c.as_slice.ensures) added c.loop-call.invariant
