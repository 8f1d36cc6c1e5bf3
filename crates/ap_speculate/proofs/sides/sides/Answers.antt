use Rattle.std.proofs.Common.{◌+◌, ap, sym, ◌∙◌, take, arith}
use Rattle.ap_speculate.specs.Sides.{sided}
use Rattle.ap_speculate.proofs.Siding.{sided_set, set_back, made_next, take_all}
use Rattle.ap_speculate.proofs.sides.sides.Goals as goal

pub loop-thief-preserved : goal.loop-thief-preserved
loop-thief-preserved c =
    let kept = sided_set c.loop-thief.thief-index c.loop-thief.thief-items c.thief-item.result c.split.new.self c.in_ok-split.ensures.same.0 in (
      kept ∙ c.loop-thief.invariant.0,
      ap sided c.in_ok-push.ensures.items ∙
          (made_next c.loop-thief.thief-index c.loop-thief.thief-items c.loop-thief.made.items c.thief-item.result c.in_ok-split.field-0 c.loop-thief.invariant.1 (omega arith) c.in_ok-split.ensures.new.0 ∙
          ap (λ l. take (c.loop-thief.thief-index + 1) l) (sym kept)),
    )

pub returns-in_err-split-clause-same : goal.returns-in_err-split-clause-same
returns-in_err-split-clause-same c =
    set_back c.args.thieves.now.len c.loop-thief.thief-index c.loop-thief.thief-items _ c.thief-item.result c.split.new.self (c.loop-thief.auto.thief-items ∙ c.deref_mut-thief-items.ensures.len) c.in_err-split.ensures.same.0 ∙
    c.loop-thief.invariant.0

pub returns-in_err-push-clause-same : goal.returns-in_err-push-clause-same
returns-in_err-push-clause-same c =
    set_back c.args.thieves.now.len c.loop-thief.thief-index c.loop-thief.thief-items _ c.thief-item.result c.split.new.self (c.loop-thief.auto.thief-items ∙ c.deref_mut-thief-items.ensures.len) c.in_ok-split.ensures.same.0 ∙
    c.loop-thief.invariant.0

pub returns-clause-made : goal.returns-clause-made
returns-clause-made c =
    c.loop-thief.invariant.1 ∙ (take_all c.loop-thief.thief-index c.loop-thief.thief-items (omega arith) ∙ c.loop-thief.invariant.0)
