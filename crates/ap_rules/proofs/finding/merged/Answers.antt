use Rattle.std.proofs.Common.{◌||◌, sym, ◌∙◌}
use Rattle.ap_rules.specs.Placed.{places_from}
use Rattle.ap_rules.proofs.Merging.{merged_more, merged_end}
use Rattle.ap_rules.proofs.finding.merged.Goals as goal

pub loop-place-preserved : goal.loop-place-preserved
loop-place-preserved c = λ p q gs first second.
    merged_more p q c.loop-place.left.now c.loop-place.right.now c.after-left.result.now c.after-right.result.now c.loop-place.out c.push.new.self (places_from (λ g. p g || q g) 0 gs) c.in-Some.place
    (sym c.least.ensures ∙ c.in-Some.is) c.after-left.ensures c.after-right.ensures c.in_ok-push.ensures.ok (c.loop-place.invariant p q gs first second)

pub returns : goal.returns
returns c = λ p q gs first second.
    merged_end p q c.loop-place.left.now c.loop-place.right.now c.loop-place.out (places_from (λ g. p g || q g) 0 gs) (sym c.least.ensures ∙ c.in_default.is) (c.loop-place.invariant p q gs first second)
