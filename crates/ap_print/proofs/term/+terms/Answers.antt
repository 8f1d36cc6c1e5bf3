use Rattle.std.proofs.Common.{◌≡◌, ◌∙◌, ◌++◌, map, ap, arith}
use Rattle.ap_term.specs.Printed.{symbol_text, value_text, spaced, list_text, quote_text, term_step, term_text}
use Rattle.ap_term.proofs.Induction.{fold_quote, fold_call}
use Rattle.ap_term.proofs.Seen.{seen, deeper}
use Rattle.ap_print.proofs.Texts.{quote_put, list_put}
use Rattle.ap_print.proofs.term.+terms.Goals as goal

pub put_term-put_terms-requires : goal.put_term-put_terms-requires
put_term-put_terms-requires t c = let d = deeper c.t.view_is c.in-Call.is c.as_slice.ensures in (omega (arith, c.decreases), tt)

pub put_term-returns-in_ok-extend-in-Quote : goal.put_term-returns-in_ok-extend-in-Quote
put_term-returns-in_ok-extend-in-Quote t c =
    let text : term_text c.args.t.now ≡ quote_text (value_text c.in-Quote.v) = ap term_text (seen c.t.view_is c.in-Quote.is) ∙ fold_quote term_step c.in-Quote.v in
    quote_put c.put_value.result c.args.text.now c.extend.new.self (value_text c.in-Quote.v) (term_text c.args.t.now) c.put_value.new.text c.in_ok-extend-in-Quote.ensures.ok text c.put_value.ensures

pub put_term-returns-in_ok-put_terms-in-Call : goal.put_term-returns-in_ok-put_terms-in-Call
put_term-returns-in_ok-put_terms-in-Call t c =
    let text : term_text c.args.t.now ≡ list_text (symbol_text c.in-Call.f) (map term_text c.in-Call.xs) = ap term_text (seen c.t.view_is c.in-Call.is) ∙ fold_call term_step c.in-Call.f c.in-Call.xs in
    let terms : c.put_terms.new.text ≡ c.put_symbol-in-Call.new.text ++ spaced (map term_text c.in-Call.xs) =
    c.in_ok-put_terms-in-Call.ensures ∙ ap (λ ts. c.put_symbol-in-Call.new.text ++ spaced (map term_text ts)) c.as_slice.ensures in
    list_put c.extend-in-Call-2.result c.args.text.now (symbol_text c.in-Call.f) (map term_text c.in-Call.xs) c.extend-in-Call.new.self c.put_symbol-in-Call.new.text c.put_terms.new.text (term_text c.args.t.now) c.extend-in-Call-2.new.self
    c.in_ok-extend-in-Call.ensures.ok c.in_ok-put_symbol-in-Call.ensures terms text c.extend-in-Call-2.ensures.ok
