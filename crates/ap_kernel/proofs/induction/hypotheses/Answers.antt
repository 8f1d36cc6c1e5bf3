use Rattle.std.proofs.Common.{◌≡◌, ◌+◌, ◌++◌, [], ◌∷◌, drop, ap, ◌∙◌, arith}
use Rattle.ap_kernel.specs.Induction.{negated_at, moved_at}
use Rattle.ap_kernel.proofs.Listed.{from_item, one_mapped}
use Rattle.ap_kernel.proofs.induction.hypotheses.Goals as goal

pub loop-call-preserved : goal.loop-call-preserved
loop-call-preserved c =
    let calls = c.args.calls.now in
    let i = c.loop-call.call-index in
    let at = negated_at c.args.literals.now c.args.s.now.0 (moved_at c.args.s.now.0 c.args.places.now) in
    let more : c.push.new.self ≡ c.loop-call.out ++ c.in_ok-negated_under.field-0 ∷ [] = c.in_ok-push.ensures.ok in
    one_mapped at calls c.call-item.result (drop i calls) (drop (i + 1) calls) c.in_ok-negated_under.field-0 c.loop-call.out c.push.new.self
    (from_item calls i c.call-item.result (omega arith) c.call-item.is)
    (c.in_ok-negated_under.ensures ∙ ap at c.as_slice.ensures)
    more c.loop-call.invariant
