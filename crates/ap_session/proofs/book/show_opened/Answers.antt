use Rattle.std.proofs.Common.{◌≡◌, ◌++◌, ap}
use Rattle.std.proofs.lemmas.Result.{err_from_is_err_and}
use Rattle.ap_outside.proofs.Gains.{gained_to, part_first, part_all, part_to}
use Rattle.ap_books.specs.Bodies.{body_by, body_of, opened}
use Rattle.ap_books.specs.Texts.{opening}
use Rattle.ap_session.specs.Working.{admits, ends}
use Rattle.ap_session.proofs.Leading.{behind_same}
use Rattle.ap_session.proofs.Showing.{puts_cut, puts_none, puts_to, puts_next}
use Rattle.ap_session.proofs.Unput.{less_first, less_to}
use Rattle.ap_session.proofs.book.show_opened.Goals as goal

pub returns-in_err-first-clause-behind : goal.returns-in_err-first-clause-behind
returns-in_err-first-clause-behind g c =
    behind_same c.args.admitting.now (body_of admits ends c.args.book.now.read c.args.admitting.now.working).log

pub returns-in_err-put_whole-clause-behind : goal.returns-in_err-put_whole-clause-behind
returns-in_err-put_whole-clause-behind g c =
    behind_same c.args.admitting.now (body_of admits ends c.args.book.now.read c.args.admitting.now.working).log

pub returns-in_err-events-clause-behind : goal.returns-in_err-events-clause-behind
returns-in_err-events-clause-behind g c =
    behind_same c.args.admitting.now (body_of admits ends c.args.book.now.read c.args.admitting.now.working).log

pub returns-in_err-first-clause-puts : goal.returns-in_err-first-clause-puts
returns-in_err-first-clause-puts g c =
    let p = err_from_is_err_and c.from_residual.result c.from_residual.ensures.1 in
    puts_none (g.S.Sink.content c.args.sink.now) (g.S.Sink.faults c.args.sink.now) c.from_residual.result p.0 _ p.1 (λ failed. absurd (cc (p.2, failed)))

pub returns-in_err-put_whole-clause-puts : goal.returns-in_err-put_whole-clause-puts
unfolding opened
returns-in_err-put_whole-clause-puts g c =
    let name = c.args.book.now.name.0 in
    let rest = (body_of admits ends c.args.book.now.read c.args.admitting.now.working).text in
    let from = g.S.Sink.content c.args.sink.now in
    let now = g.S.Sink.content c.put_whole.new.sink in
    let text = c.as_slice-2.result.now in
    let is : text ≡ opening name = cc (c.as_slice-2.ensures, c.in_ok-first.ensures, c.as_slice.ensures) in
    let p = err_from_is_err_and c.from_residual-in_err-put_whole.result c.from_residual-in_err-put_whole.ensures.1 in
    puts_cut from now _ _ c.from_residual-in_err-put_whole.result p.0 (opening name ++ rest) p.1
    (part_first from now (opening name) rest (part_to from now text (opening name) c.in_err-put_whole.ensures.part is))
    (λ failed. less_first from now (opening name) rest (less_to from now text (opening name) c.in_err-put_whole.ensures.unput is))
    c.put_whole.ensures.later (λ failed. c.in_err-put_whole.ensures.failed (cc (p.2, failed)))

pub returns-in_err-events-clause-puts : goal.returns-in_err-events-clause-puts
unfolding opened
returns-in_err-events-clause-puts g c =
    let name = c.args.book.now.name.0 in
    let rest = (body_of admits ends c.args.book.now.read c.args.admitting.now.working).text in
    let from = g.S.Sink.content c.args.sink.now in
    let now = g.S.Sink.content c.put_whole.new.sink in
    let text = c.as_slice-2.result.now in
    let is : text ≡ opening name = cc (c.as_slice-2.ensures, c.in_ok-first.ensures, c.as_slice.ensures) in
    let p = err_from_is_err_and c.from_residual-in_err-events.result c.from_residual-in_err-events.ensures.1 in
    puts_cut from now _ _ c.from_residual-in_err-events.result p.0 (opening name ++ rest) p.1
    (part_first from now (opening name) rest (part_all from now (opening name) (gained_to from now text (opening name) c.in_ok-put_whole.ensures.whole is)))
    (λ failed. absurd (cc (p.2, failed))) c.put_whole.ensures.later (λ failed. absurd (cc (p.2, failed)))

pub returns-clause-puts : goal.returns-clause-puts
unfolding opened
returns-clause-puts g c =
    let content = g.S.Sink.content in
    let puts = g.S.Sink.faults in
    let name = c.args.book.now.name.0 in
    let from = content c.args.sink.now in
    let mid = content c.put_whole.new.sink in
    let now = content c.show_held.new.sink in
    let text = c.as_slice-2.result.now in
    let is : text ≡ opening name = cc (c.as_slice-2.ensures, c.in_ok-first.ensures, c.as_slice.ensures) in
    puts_next from mid now (puts c.args.sink.now) (puts c.put_whole.new.sink) (puts c.show_held.new.sink) c.show_held.result (opening name) (body_of admits ends c.args.book.now.read c.args.admitting.now.working).text
    (gained_to from mid text (opening name) c.in_ok-put_whole.ensures.whole is) c.put_whole.ensures.later
    (puts_to mid now _ _ c.show_held.result _ _ c.show_held.ensures.puts (ap (λ e. (body_by admits ends e c.args.admitting.now.working).text) c.in_ok-events.ensures))
