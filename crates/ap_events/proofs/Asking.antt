-- What the symbol at a form's head asks for.
use Rattle.std.proofs.Common.{◌≡◌, Bool, true, false, cond, refl, ap, sym, ◌∙◌}
use Rattle.std.specs.Prelude.{codes}
use Rattle.ap_value.specs.declared.symbol.Symbol.{Symbol}
use Rattle.ap_value.specs.Values.{acl2, symbol_eq}
use Rattle.ap_events.specs.Books.{Asks, book, events, event, is_holder, asks_of}

-- by the two tests
asked : Bool → Bool → Asks
asked b c = cond b book (cond c events event)

asks_book_by : (b c : Bool) → b ≡ true → asked b c ≡ book
unfolding asked
asks_book_by b c is = ap (λ x. cond x book (cond c events event)) is

asks_events_by : (b c : Bool) → b ≡ false → c ≡ true → asked b c ≡ events
unfolding asked
asks_events_by b c isnt is = ap (λ x. cond x book (cond c events event)) isnt ∙ ap (λ x. cond x events event) is

asks_event_by : (b c : Bool) → b ≡ false → c ≡ false → asked b c ≡ event
unfolding asked
asks_event_by b c isnt none = ap (λ x. cond x book (cond c events event)) isnt ∙ ap (λ x. cond x events event) none

pub asks_book : (h : Symbol) → symbol_eq h (acl2 (codes "INCLUDE-BOOK")) ≡ true → asks_of h ≡ book
unfolding asks_of asked
asks_book h is = asks_book_by (symbol_eq h (acl2 (codes "INCLUDE-BOOK"))) (is_holder h) is

pub asks_events : (h : Symbol) → symbol_eq h (acl2 (codes "INCLUDE-BOOK")) ≡ false → is_holder h ≡ true → asks_of h ≡ events
unfolding asks_of asked
asks_events h isnt is = asks_events_by (symbol_eq h (acl2 (codes "INCLUDE-BOOK"))) (is_holder h) isnt is

pub asks_event : (h : Symbol) → symbol_eq h (acl2 (codes "INCLUDE-BOOK")) ≡ false → is_holder h ≡ false → asks_of h ≡ event
unfolding asks_of asked
asks_event h isnt none = asks_event_by (symbol_eq h (acl2 (codes "INCLUDE-BOOK"))) (is_holder h) isnt none
