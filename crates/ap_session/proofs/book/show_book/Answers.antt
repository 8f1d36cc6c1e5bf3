use Rattle.std.proofs.Common.{◌≤◌, refl, ap, sym, subst, inr, Err, ◌≡◌, ◌∙◌, arith, [], ◌∷◌}
use Rattle.std.proofs.lemmas.Result.{err_from_is_err_and}
use Rattle.ap_session.specs.declared.fault.Fault.TheVariants as faults
use Rattle.ap_outside.proofs.Gains.{gained_more, gained_to, part_first, part_next, part_to}
use Rattle.ap_books.specs.Bodies.{body_of, opened}
use Rattle.ap_books.specs.Texts.{closing}
use Rattle.ap_session.specs.Acts.{put, outside, Tied}
use Rattle.ap_session.specs.Certs.{seen_in, files_by}
use Rattle.ap_session.specs.Session.{book_text, end_acts}
use Rattle.ap_session.specs.Storing.{Stored, StoredPart}
use Rattle.ap_session.specs.Working.{admits, ends}
use Rattle.ap_session.proofs.Acting.{tied_put, tied_next, tied_by, acted_opened}
use Rattle.ap_session.proofs.Sessions.{only_failed, never_read}
use Rattle.ap_session.proofs.Showing.{book_whole, book_cut, rose_on}
use Rattle.ap_session.proofs.Storing.{part_none as files_none}
use Rattle.ap_session.proofs.book.show_book.Goals as goal

-- a fault of writing, as the session's, has the cause that it had

pub returns-in_err-held-clause-book : goal.returns-in_err-held-clause-book
unfolding book_text
returns-in_err-held-clause-book g c =
    let name = c.args.book.now.name.0 in
    let read = c.args.book.now.read in
    let body = body_of admits ends read c.args.admitting.now.working in
    let files = g.L.Library.files c.args.library.now in
    let stores = g.L.Library.store_faults c.args.library.now in
    let from = g.S.Sink.content c.args.sink.now in
    let now = g.S.Sink.content c.show_opened.new.sink in
    let a = outside from (g.S.Sink.faults c.args.sink.now) files stores in
    let b = outside now (g.S.Sink.faults c.show_opened.new.sink) files stores in
    let p = err_from_is_err_and c.from_residual.result c.from_residual.ensures.1 in
    let cause = λ (failed : p.0 ≡ faults.Write). ap (λ x. Err x) (only_failed _ (sym p.2 ∙ failed)) in
    book_cut a b c.from_residual.result p.0 c.args.before.now c.args.book.now body p.1
    (part_first from now (opened name body) (closing name body.certified) c.in_err-held.ensures.puts.part)
    (files_none files files _ refl)
    (tied_put a b (p.0 ≡ faults.Write) (opened name body) (end_acts (seen_in c.args.before.now) name read body.certified) (λ failed. c.in_err-held.ensures.puts.failed (cause failed)) (λ failed. c.in_err-held.ensures.puts.unput (cause failed)) c.in_err-held.ensures.puts.part refl)
    (omega arith) c.show_opened.ensures.puts.later (λ failed. inr (c.in_err-held.ensures.puts.failed (cause failed))) (λ read. never_read _ (sym p.2 ∙ read))

pub returns-in_err-end_book-clause-book : goal.returns-in_err-end_book-clause-book
unfolding book_text
returns-in_err-end_book-clause-book g c =
    let content = g.S.Sink.content in
    let puts = g.S.Sink.faults in
    let files = g.L.Library.files in
    let stores = g.L.Library.store_faults in
    let name = c.args.book.now.name.0 in
    let read = c.args.book.now.read in
    let body = body_of admits ends read c.args.admitting.now.working in
    let seen = seen_in c.args.before.now in
    let from = content c.args.sink.now in
    let mid = content c.show_opened.new.sink in
    let now = content c.end_book.new.sink in
    let a = outside from (puts c.args.sink.now) (files c.args.library.now) (stores c.args.library.now) in
    let b = outside mid (puts c.show_opened.new.sink) (files c.args.library.now) (stores c.args.library.now) in
    let d = outside now (puts c.end_book.new.sink) (files c.end_book.new.library) (stores c.end_book.new.library) in
    let p = err_from_is_err_and c.from_residual-in_err-end_book.result c.from_residual-in_err-end_book.ensures.1 in
    let good = c.as_ref.ensures.variant ∙ sym c.in_ok-held.ensures.certified in
    let first : puts c.args.sink.now ≤ puts c.show_opened.new.sink = c.show_opened.ensures.puts.later in
    let last = c.end_book.ensures.later in
    book_cut a d c.from_residual-in_err-end_book.result p.0 c.args.before.now c.args.book.now body p.1
    (part_next from mid now (opened name body) (closing name body.certified) c.in_ok-held.ensures.puts.text
    (part_to mid now _ (closing name body.certified) c.in_err-end_book.ensures.part (ap (closing name) good)))
    (subst (λ k. StoredPart a.files d.files (files_by seen name read k)) good c.in_err-end_book.ensures.stored)
    (tied_next a b d (p.0 ≡ faults.Write) (put (opened name body) ∷ []) (end_acts seen name read body.certified)
    (record { puts = first; stores = omega arith })
    (record { puts = last; stores = c.end_book.ensures.stores })
    (acted_opened a b (opened name body) c.in_ok-held.ensures.puts.text refl)
    (subst (λ k. Tied b d (p.0 ≡ faults.Write) (end_acts seen name read k)) good (tied_by b d _ (p.0 ≡ faults.Write) _ (λ failed. only_failed _ (sym p.2 ∙ failed)) c.in_err-end_book.ensures.tied)))
    c.end_book.ensures.stores (omega (arith, first, last))
    (λ failed. rose_on _ _ _ _ _ first last (c.in_err-end_book.ensures.failed (ap (λ x. Err x) (only_failed _ (sym p.2 ∙ failed)))))
    (λ read. never_read _ (sym p.2 ∙ read))

pub returns-clause-book : goal.returns-clause-book
unfolding book_text
returns-clause-book g c =
    let content = g.S.Sink.content in
    let puts = g.S.Sink.faults in
    let files = g.L.Library.files in
    let stores = g.L.Library.store_faults in
    let name = c.args.book.now.name.0 in
    let read = c.args.book.now.read in
    let body = body_of admits ends read c.args.admitting.now.working in
    let from = content c.args.sink.now in
    let mid = content c.show_opened.new.sink in
    let now = content c.end_book.new.sink in
    let a = outside from (puts c.args.sink.now) (files c.args.library.now) (stores c.args.library.now) in
    let d = outside now (puts c.end_book.new.sink) (files c.end_book.new.library) (stores c.end_book.new.library) in
    let good = c.as_ref.ensures.variant ∙ sym c.in_ok-held.ensures.certified in
    let first : puts c.args.sink.now ≤ puts c.show_opened.new.sink = c.show_opened.ensures.puts.later in
    let last = c.end_book.ensures.later in
    book_whole a d c.is_some.result c.args.before.now c.args.book.now body
    (gained_more from mid now (opened name body) (closing name body.certified) c.in_ok-held.ensures.puts.text
    (gained_to mid now _ (closing name body.certified) c.in_ok-end_book.ensures.text (ap (closing name) good)))
    (subst (λ k. Stored a.files d.files (files_by (seen_in c.args.before.now) name read k)) good c.in_ok-end_book.ensures.files)
    c.end_book.ensures.stores (omega (arith, first, last))
