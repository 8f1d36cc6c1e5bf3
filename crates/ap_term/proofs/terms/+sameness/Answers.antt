use Rattle.std.proofs.Common.{rules, ◌≡◌, false, Bool, IsTrue, sym, ◌∙◌, arith, subst}
use Rattle.ap_term.proofs.Seen.{deeper, parts_same, calls_same}
use Rattle.ap_term.proofs.terms.+sameness.Goals as goal

refused : {A : Type 0} {b : Bool} → b ≡ false → (A → IsTrue b) → (IsTrue false → A) × (A → IsTrue false)
refused e h = (λ f. cc, λ a. subst IsTrue e (h a))

pub same_term-returns-then-not-may_be_same : goal.same_term-returns-then-not-may_be_same
same_term-returns-then-not-may_be_same t c =
    let no : c.may_be_same.result ≡ false = search rules in
    refused no (λ e. c.may_be_same.ensures (parts_same c.a.view_is c.in-Call-Call.is-0 c.b.view_is c.in-Call-Call.is-1 e).1)

pub same_term-returns-then-not-same_symbol : goal.same_term-returns-then-not-same_symbol
same_term-returns-then-not-same_symbol t c =
    let no : c.same_symbol-in-Call-Call.result ≡ false = search rules in
    refused no (λ e. c.same_symbol-in-Call-Call.ensures.same.1 (parts_same c.a.view_is c.in-Call-Call.is-0 c.b.view_is c.in-Call-Call.is-1 e).0)

pub same_term-same_terms-requires : goal.same_term-same_terms-requires
same_term-same_terms-requires t c = let d = deeper c.a.view_is c.in-Call-Call.is-0 c.as_slice.ensures in (omega (arith, c.decreases), tt)

pub same_term-returns-else-not-same_symbol : goal.same_term-returns-else-not-same_symbol
same_term-returns-else-not-same_symbol t c =
    let heads : c.in-Call-Call.f ≡ c.in-Call-Call.g = search rules in (
      λ h. calls_same c.a.view_is c.in-Call-Call.is-0 c.b.view_is c.in-Call-Call.is-1 heads (sym c.as_slice.ensures ∙ c.same_terms.ensures.0 h ∙ c.as_slice-in-Call-Call.ensures),
      λ e. c.same_terms.ensures.1 (c.as_slice.ensures ∙ (parts_same c.a.view_is c.in-Call-Call.is-0 c.b.view_is c.in-Call-Call.is-1 e).1 ∙ sym c.as_slice-in-Call-Call.ensures),
    )
