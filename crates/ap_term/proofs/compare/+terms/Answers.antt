use Rattle.std.proofs.Common.{◌≡◌, ◌∷◌, ◌++◌, map, drop, sym, ◌∙◌, arith}
use Rattle.ap_term.specs.Printed.{symbol_text, value_text, term_text}
use Rattle.ap_term.specs.Starts.{arguments_text}
use Rattle.ap_term.proofs.ArgumentTexts.{continued, argument_at, lengths_apart, not_equal}
use Rattle.ap_term.proofs.Folds.{constant_text, call_text}
use Rattle.ap_term.proofs.Parts.{along, behind_byte, parts_same, parts_apart}
use Rattle.ap_term.proofs.Seen.{seen}
use Rattle.ap_term.proofs.Seen.{deeper}
use Rattle.ap_term.proofs.compare.+terms.Goals as goal

pub compare_term-returns-in-Quote-Quote : goal.compare_term-returns-in-Quote-Quote
compare_term-returns-in-Quote-Quote t c =
    let v = c.in-Quote-Quote.v in
    let w = c.in-Quote-Quote.w in
    along c.compare_value.result (term_text c.args.a.now) (39 ∷ value_text v) c.args.x (term_text c.args.b.now) (39 ∷ value_text w) c.args.y
    (constant_text c.args.a.now v (seen c.a.view_is c.in-Quote-Quote.is-0)) (constant_text c.args.b.now w (seen c.b.view_is c.in-Quote-Quote.is-1))
    (behind_byte 39 c.compare_value.result (value_text v) c.args.x (value_text w) c.args.y c.compare_value.ensures)

pub compare_term-returns-in-Equal : goal.compare_term-returns-in-Equal
compare_term-returns-in-Equal t c =
    let a = c.args.a.now in
    let b = c.args.b.now in
    let left = symbol_text c.in-Call-Call.f in
    let right = symbol_text c.in-Call-Call.g in
    let xs = arguments_text (map term_text c.as_slice-xs.result.now) in
    let ys = arguments_text (map term_text c.as_slice-ys.result.now) in
    let e = call_text a c.in-Call-Call.f c.in-Call-Call.xs (seen c.a.view_is c.in-Call-Call.is-0) in
    let f = call_text b c.in-Call-Call.g c.in-Call-Call.ys (seen c.b.view_is c.in-Call-Call.is-1) in
    let text_a : term_text a ≡ 40 ∷ (left ++ xs) = cc in
    let text_b : term_text b ≡ 40 ∷ (right ++ ys) = cc in
    along c.compare_arguments.result (term_text a) (40 ∷ (left ++ xs)) c.args.x (term_text b) (40 ∷ (right ++ ys)) c.args.y text_a text_b
    (behind_byte 40 c.compare_arguments.result (left ++ xs) c.args.x (right ++ ys) c.args.y
    (parts_same c.compare_symbols.result c.compare_arguments.result left xs right ys c.arguments_byte-left.result c.arguments_byte-right.result c.args.x c.args.y
    c.compare_symbols.ensures c.arguments_byte-left.ensures.first c.arguments_byte-right.ensures.first c.in-Equal.is c.compare_arguments.ensures))

pub compare_term-returns-in_default-compare_symbols : goal.compare_term-returns-in_default-compare_symbols
compare_term-returns-in_default-compare_symbols t c =
    let a = c.args.a.now in
    let b = c.args.b.now in
    let left = symbol_text c.in-Call-Call.f in
    let right = symbol_text c.in-Call-Call.g in
    let xs = arguments_text (map term_text c.as_slice-xs.result.now) in
    let ys = arguments_text (map term_text c.as_slice-ys.result.now) in
    let e = call_text a c.in-Call-Call.f c.in-Call-Call.xs (seen c.a.view_is c.in-Call-Call.is-0) in
    let f = call_text b c.in-Call-Call.g c.in-Call-Call.ys (seen c.b.view_is c.in-Call-Call.is-1) in
    let text_a : term_text a ≡ 40 ∷ (left ++ xs) = cc in
    let text_b : term_text b ≡ 40 ∷ (right ++ ys) = cc in
    along c.compare_symbols.result (term_text a) (40 ∷ (left ++ xs)) c.args.x (term_text b) (40 ∷ (right ++ ys)) c.args.y text_a text_b
    (behind_byte 40 c.compare_symbols.result (left ++ xs) c.args.x (right ++ ys) c.args.y
    (parts_apart c.compare_symbols.result left xs right ys c.arguments_byte-left.result c.arguments_byte-right.result c.args.x c.args.y
    c.compare_symbols.ensures c.arguments_byte-left.ensures.first c.arguments_byte-right.ensures.first c.in_default-compare_symbols.not-Equal))

pub compare_arguments-returns-then-is_ne : goal.compare_arguments-returns-then-is_ne
compare_arguments-returns-then-is_ne t c =
    let r = c.compare_term-order.result in
    let xs = c.args.xs.now in
    let ys = c.args.ys.now in
    let i = c.loop-i.i in
    continued r (arguments_text (map term_text xs)) (arguments_text (map term_text ys))
    (arguments_text (map term_text (drop i xs))) (arguments_text (map term_text (drop i ys))) c.args.x c.args.y c.loop-i.invariant
    (argument_at r xs ys i c.index-xs-i.result c.index-ys-i.result c.arguments_byte-left.result c.arguments_byte-right.result c.args.x c.args.y
    (omega (arith, c.min-i-end.ensures, c.loop-i-test.true)) (omega (arith, c.min-i-end.ensures, c.loop-i-test.true)) c.index-xs-i.is c.index-ys-i.is
    c.compare_term-order.ensures c.arguments_byte-left.ensures.first c.arguments_byte-right.ensures.first
    (not_equal r (sym c.if-is_ne.true ∙ c.is_ne.ensures)))

pub compare_arguments-returns-in_default : goal.compare_arguments-returns-in_default
compare_arguments-returns-in_default t c =
    let xs = c.args.xs.now in
    let ys = c.args.ys.now in
    let i = c.loop-i.i in
    continued c.cmp.result (arguments_text (map term_text xs)) (arguments_text (map term_text ys))
    (arguments_text (map term_text (drop i xs))) (arguments_text (map term_text (drop i ys))) c.args.x c.args.y c.loop-i.invariant
    (lengths_apart c.cmp.result xs ys i c.args.x c.args.y (omega (arith, c.min-i-end.ensures)) (omega (arith, c.min-i-end.ensures)) (omega (arith, c.min-i-end.ensures))
    c.cmp.ensures c.in_default.not-Equal)

pub compare_term-compare_arguments-requires : goal.compare_term-compare_arguments-requires
compare_term-compare_arguments-requires t c = let d = deeper c.a.view_is c.in-Call-Call.is-0 c.as_slice-xs.ensures in (omega (arith, c.decreases), tt)
