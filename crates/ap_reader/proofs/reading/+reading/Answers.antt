use Rattle.std.proofs.Common.{sym, arith}
use Rattle.std.proofs.lemmas.Result.{err_from_is_err_and}
use Rattle.ap_tokens.specs.Tokens.{seen}
use Rattle.ap_reader.proofs.Loops.{items_dot, items_form, items_dot_fails, items_form_fails}
use Rattle.ap_reader.proofs.reading.+reading.Goals as goal

pub items-returns-in_err-last-in-Dot-clause-value : goal.items-returns-in_err-last-in-Dot-clause-value
items-returns-in_err-last-in-Dot-clause-value t c =
    let p = err_from_is_err_and c.from_residual-in_err-last-in-Dot.result c.from_residual-in_err-last-in-Dot.ensures.1 in
    rw (p.1, p.2) (items_dot_fails c.args.left c.loop-out.some c.args.place c.loop-out.out (seen c.in_ok-token.token) c.loop-out.tokens c.token_in.new.tokens _ _
    c.in_ok-token.ensures.value (sym c.in-Dot.ensures) c.in_err-last-in-Dot.ensures.value c.loop-out.invariant.whole)

pub items-returns-in-Dot-clause-value : goal.items-returns-in-Dot-clause-value
items-returns-in-Dot-clause-value t c =
    rw c.in_ok-last-in-Dot-2.ensures (items_dot c.args.left c.loop-out.some c.args.place c.loop-out.out (seen c.in_ok-token.token) c.loop-out.tokens c.token_in.new.tokens
    c.tail.new.tokens _ _ c.in_ok-token.ensures.value (sym c.in-Dot.ensures) c.in_ok-last-in-Dot.ensures.value c.loop-out.invariant.whole)

pub items-returns-in_err-form-in-Form-clause-value : goal.items-returns-in_err-form-in-Form-clause-value
items-returns-in_err-form-in-Form-clause-value t c =
    let p = err_from_is_err_and c.from_residual-in_err-form-in-Form.result c.from_residual-in_err-form-in-Form.ensures.1 in
    rw (p.1, p.2) (items_form_fails c.args.left c.loop-out.some c.args.place c.loop-out.out (seen c.in_ok-token.token) c.loop-out.tokens c.token_in.new.tokens _ _
    c.in_ok-token.ensures.value (sym c.in-Form.ensures) c.in_err-form-in-Form.ensures.value c.loop-out.invariant.whole)

pub items-loop-out-preserved : goal.items-loop-out-preserved
items-loop-out-preserved t c = record {
  whole = rw c.in_ok-push-in-Form.ensures.ok (items_form c.args.left c.loop-out.some c.args.place c.loop-out.out (seen c.in_ok-token.token) c.loop-out.tokens c.token_in.new.tokens
      c.form.new.tokens _ _ c.in_ok-token.ensures.value (sym c.in-Form.ensures) c.in_ok-form-in-Form.ensures.value c.loop-out.invariant.whole);
  fewer = omega (arith, c.in_ok-token.ensures.shorter, c.in_ok-form-in-Form.ensures.shorter);
}
