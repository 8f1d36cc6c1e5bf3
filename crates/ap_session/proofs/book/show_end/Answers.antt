use Rattle.std.proofs.Common.{◌≡◌}
use Rattle.std.proofs.lemmas.Result.{err_from_is_err_and}
use Rattle.ap_outside.proofs.Gains.{gained_to, part_to}
use Rattle.ap_session.specs.Working.{ends}
use Rattle.ap_session.proofs.Showing.{puts_whole, puts_cut, puts_none}
use Rattle.ap_session.proofs.Unput.{less_to}
use Rattle.ap_session.proofs.book.show_end.Goals as goal

pub returns-in_err-ended-clause-puts : goal.returns-in_err-ended-clause-puts
returns-in_err-ended-clause-puts g c =
    let p = err_from_is_err_and c.from_residual.result c.from_residual.ensures.1 in
    puts_none (g.S.Sink.content c.args.sink.now) (g.S.Sink.faults c.args.sink.now) c.from_residual.result p.0 _ p.1 (λ failed. absurd (cc (p.2, failed)))

pub returns-in_err-put_whole-clause-puts : goal.returns-in_err-put_whole-clause-puts
returns-in_err-put_whole-clause-puts g c =
    let from = g.S.Sink.content c.args.sink.now in
    let now = g.S.Sink.content c.put_whole.new.sink in
    let text = c.as_slice.result.now in
    let is : text ≡ (ends c.args.admitting.now.working).text = cc (c.as_slice.ensures, c.in_ok-ended.ensures.text) in
    let p = err_from_is_err_and c.from_residual-in_err-put_whole.result c.from_residual-in_err-put_whole.ensures.1 in
    puts_cut from now _ _ c.from_residual-in_err-put_whole.result p.0 _ p.1 (part_to from now text _ c.in_err-put_whole.ensures.part is)
    (λ failed. less_to from now text _ c.in_err-put_whole.ensures.unput is) c.put_whole.ensures.later (λ failed. c.in_err-put_whole.ensures.failed (cc (p.2, failed)))

pub returns-clause-puts : goal.returns-clause-puts
returns-clause-puts g c =
    let text = c.as_slice.result.now in
    let is : text ≡ (ends c.args.admitting.now.working).text = cc (c.as_slice.ensures, c.in_ok-ended.ensures.text) in
    puts_whole _ _ _ _ _ _ (gained_to (g.S.Sink.content c.args.sink.now) (g.S.Sink.content c.put_whole.new.sink) text _ c.in_ok-put_whole.ensures.whole is) c.put_whole.ensures.later
