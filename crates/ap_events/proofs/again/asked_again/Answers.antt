use Rattle.std.proofs.Common.{◌≡◌, ap, sym, ◌∙◌, subst}
use Rattle.ap_plain.proofs.Ending.{at_world}
use Rattle.ap_events.specs.Books.{asked_again}
use Rattle.ap_events.proofs.Asking.{asks_book, asks_events, asks_event}
use Rattle.ap_events.proofs.Depths.{did_is}
use Rattle.ap_events.proofs.Doing.{IsBacked}
use Rattle.ap_events.proofs.again.asked_again.Goals as goal

pub known_again-requires-clause-backed : goal.known_again-requires-clause-backed
known_again-requires-clause-backed c =
    subst (λ a. IsBacked (asked_again c.args.earlier.now c.args.f.now c.args.w.now c.args.head.now a) c.args.w.now)
    (asks_event c.args.head.now (sym c.is_named.ensures ∙ c.if-is_named.false) (sym c.is_holder.ensures ∙ c.if-is_holder.false)) c.requires.backed

pub returns-then-is_named-clause-done : goal.returns-then-is_named-clause-done
returns-then-is_named-clause-done c =
    did_is c.book_again.result _ _ c.args.w.now c.book_again.new.w
    (ap (asked_again c.args.earlier.now c.args.f.now c.args.w.now c.args.head.now) (asks_book c.args.head.now (sym c.is_named.ensures ∙ c.if-is_named.true))) c.book_again.ensures.done

pub returns-then-is_holder-clause-done : goal.returns-then-is_holder-clause-done
returns-then-is_holder-clause-done c =
    did_is c.refused_head.result _ _ c.args.w.now c.args.w.now
    (ap (asked_again c.args.earlier.now c.args.f.now c.args.w.now c.args.head.now) (asks_events c.args.head.now (sym c.is_named.ensures ∙ c.if-is_named.false) (sym c.is_holder.ensures ∙ c.if-is_holder.true)))
    (at_world c.refused_head.result _ c.args.w.now c.refused_head.ensures.done)

pub returns-else-is_holder-clause-done : goal.returns-else-is_holder-clause-done
returns-else-is_holder-clause-done c =
    did_is c.known_again.result _ _ c.args.w.now c.known_again.new.w
    (ap (asked_again c.args.earlier.now c.args.f.now c.args.w.now c.args.head.now) (asks_event c.args.head.now (sym c.is_named.ensures ∙ c.if-is_named.false) (sym c.is_holder.ensures ∙ c.if-is_holder.false)))
    c.known_again.ensures.done
