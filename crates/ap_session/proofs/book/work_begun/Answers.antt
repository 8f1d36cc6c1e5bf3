use Rattle.std.proofs.Common.{◌≡◌, ◌∙◌, true}
use Rattle.std.proofs.lemmas.Result.{err_from_is_err_and}
use Rattle.ap_outside.proofs.Gains.{part_all}
use Rattle.ap_books.specs.Bodies.{body_of}
use Rattle.ap_session.specs.declared.fault.Fault.TheVariants as faults
use Rattle.ap_session.specs.Acts.{outside}
use Rattle.ap_session.specs.Certs.{seen_in}
use Rattle.ap_session.specs.Working.{admits, ends}
use Rattle.ap_session.specs.Session.{kept_by, book_acts}
use Rattle.ap_session.proofs.Acting.{tied_all, acted_book}
use Rattle.ap_session.proofs.Leading.{kept_passed, kept_told, led_none, led_kept}
use Rattle.ap_session.proofs.Showing.{book_whole, book_cut, book_same}
use Rattle.ap_session.proofs.Storing.{part_all as files_all}
use Rattle.ap_session.proofs.book.work_begun.Goals as goal

pub returns-in_err-certified-clause-led : goal.returns-in_err-certified-clause-led
returns-in_err-certified-clause-led g c =
    led_none c.args.admitting.now c.show_book.new.admitting (body_of admits ends c.args.book.now.read c.args.admitting.now.working).log c.requires.begun c.requires.unkept c.in_err-certified.ensures.behind

pub keep-requires : goal.keep-requires
keep-requires g c =
    kept_passed c.args.book.now.read c.args.admitting.now.working c.show_book.new.admitting.working (c.in_ok-certified.ensures.certified ∙ c.if-not-certified.false) c.in_ok-certified.ensures.state

pub returns-clause-led : goal.returns-clause-led
returns-clause-led g c =
    let a = c.args.admitting.now in
    let b = c.show_book.new.admitting in
    led_kept a b c.keep.new.self (body_of admits ends c.args.book.now.read a.working).log (kept_by b.working.second b.working.world) c.in_ok-certified.ensures.behind c.in_ok-keep.ensures.left
    (kept_told c.args.book.now.read a.working b.working (c.in_ok-certified.ensures.certified ∙ c.if-not-certified.false) c.in_ok-certified.ensures.state) c.in_ok-keep.ensures.limits c.in_ok-keep.ensures.notes c.in_ok-keep.ensures.workers

pub returns-in_err-certified-clause-book : goal.returns-in_err-certified-clause-book
returns-in_err-certified-clause-book g c =
    let p = err_from_is_err_and c.from_residual.result c.from_residual.ensures.1 in
    book_same _ _ c.from_residual.result _ p.0 _ _ _ p.1 p.2 c.in_err-certified.ensures.book

pub returns-in_err-keep-clause-book : goal.returns-in_err-keep-clause-book
returns-in_err-keep-clause-book g c =
    let content = g.S.Sink.content in
    let puts = g.S.Sink.faults in
    let files = g.L.Library.files in
    let stores = g.L.Library.store_faults in
    let name = c.args.book.now.name.0 in
    let read = c.args.book.now.read in
    let seen = seen_in c.args.before.now in
    let body = body_of admits ends read c.args.admitting.now.working in
    let a = outside (content c.args.sink.now) (puts c.args.sink.now) (files c.args.library.now) (stores c.args.library.now) in
    let b = outside (content c.show_book.new.sink) (puts c.show_book.new.sink) (files c.show_book.new.library) (stores c.show_book.new.library) in
    let done = c.in_ok-certified.ensures.book in
    let p = err_from_is_err_and c.from_residual-in_err-keep.result c.from_residual-in_err-keep.ensures.1 in
    book_cut a b c.from_residual-in_err-keep.result p.0 c.args.before.now c.args.book.now body p.1
    (part_all a.content b.content _ done.text) (files_all a.files b.files _ done.files)
    (tied_all a b (p.0 ≡ faults.Write) (book_acts seen name read body) (λ failed. absurd (cc (p.2, failed))) (acted_book a b seen name read body done.text done.files))
    done.stores done.later (λ failed. absurd (cc (p.2, failed))) (λ failed. absurd (cc (p.2, failed)))

pub returns-clause-book : goal.returns-clause-book
returns-clause-book g c =
    let done = c.in_ok-certified.ensures.book in
    book_whole _ _ true _ _ _ done.text done.files done.stores done.later
