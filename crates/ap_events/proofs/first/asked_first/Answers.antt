use Rattle.std.proofs.Common.{◌≡◌, ap, sym, ◌∙◌, rules}
use Rattle.ap_plain.proofs.Ending.{at_world}
use Rattle.ap_events.specs.Books.{asked_first}
use Rattle.ap_events.proofs.Asking.{asks_book, asks_events, asks_event}
use Rattle.ap_events.proofs.Depths.{did_is}
use Rattle.ap_events.proofs.first.asked_first.Goals as goal

pub returns-then-is_named-clause-done : goal.returns-then-is_named-clause-done
returns-then-is_named-clause-done g c =
    did_is c.include_event.result _ _ c.args.w.now c.include_event.new.w
    (ap (asked_first c.args.crew.now.limits.now c.args.earlier.now c.args.f.now c.args.w.now c.args.head.now) (asks_book c.args.head.now (sym c.is_named.ensures ∙ c.if-is_named.true))) c.include_event.ensures.done

pub returns-then-is_holder-clause-done : goal.returns-then-is_holder-clause-done
returns-then-is_holder-clause-done g c =
    did_is c.refused_head.result _ _ c.args.w.now c.args.w.now
    (ap (asked_first c.args.crew.now.limits.now c.args.earlier.now c.args.f.now c.args.w.now c.args.head.now) (asks_events c.args.head.now (sym c.is_named.ensures ∙ c.if-is_named.false) (sym c.is_holder.ensures ∙ c.if-is_holder.true)))
    (at_world c.refused_head.result _ c.args.w.now c.refused_head.ensures.done)

pub returns-else-is_holder-clause-done : goal.returns-else-is_holder-clause-done
returns-else-is_holder-clause-done g c =
    did_is c.plain.result _ _ c.args.w.now c.plain.new.w
    (ap (asked_first c.args.crew.now.limits.now c.args.earlier.now c.args.f.now c.args.w.now c.args.head.now) (asks_event c.args.head.now (sym c.is_named.ensures ∙ c.if-is_named.false) (sym c.is_holder.ensures ∙ c.if-is_holder.false)))
    c.plain.ensures.done
