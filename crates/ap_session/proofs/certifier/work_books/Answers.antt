use Rattle.std.proofs.Common.{◌≡◌, ◌∙◌, ◌≤◌, ◌+◌, length, get_or, take, map, string_bytes, true, refl, ap, sym, subst, arith, length-append, [], ◌∷◌}
use Rattle.std.proofs.lemmas.Result.{err_from_is_err_and}
use Rattle.ap_session.specs.declared.fault.Fault.TheVariants as faults
use Rattle.ap_session.specs.Acts.{outside, Tied}
use Rattle.ap_session.specs.Certs.{seen_in, files_by}
use Rattle.ap_session.specs.Session.{read_body, IsNext, book_acts, worked_books}
use Rattle.ap_session.specs.Storing.{Stored, StoredPart}
use Rattle.ap_session.proofs.Acting.{tied_same}
use Rattle.ap_session.proofs.Sessions.{SoFar, CutOff, NextBook, so_far_none, so_far_more, cut_between, cut_within, tied_between, tied_within, indexed, fronted, named_at, named_length, all_listed}
use Rattle.ap_session.proofs.Showing.{rose_over}
use Rattle.ap_session.proofs.certifier.work_books.Given.{Over}
use Rattle.ap_session.proofs.certifier.work_books.Goals as goal
use Rattle.ap_session.proofs.certifier.work_books.Goals.{After-work_book, In_err-read_next, In_err-good}

-- the book that a round works
next_book : (g : Over) (c : After-work_book g)
    → NextBook (g.L.Library.files c.loop-name.library) (map string_bytes c.args.names.now) (string_bytes c.name-item.result) c.loop-name.books c.read_next.new.books
    (take c.len-place.result c.as_slice-listed.result.now) c.index-listed-place.result
next_book g c =
    let lib = g.L.Library.files c.loop-name.library in
    let names = map string_bytes c.args.names.now in
    let name = string_bytes c.name-item.result in
    let books = c.loop-name.books in
    let new = c.read_next.new.books in
    let inv = c.loop-name.invariant in
    let next : IsNext lib name books new = c.in_ok-read_next.ensures.ok in
    let place = c.len-place.result in
    let listed = c.as_slice-listed.result.now in
    record {
      few = omega (arith, named_length string_bytes c.args.names.now, inv.count);
      at = subst (λ k. name ≡ get_or names k name) (sym inv.count) (named_at string_bytes c.args.names.now c.loop-name.name-index c.name-item.result (omega arith) c.name-item.is);
      next = next;
      same = indexed lib name books new next listed place c.index-listed-place.result c.as_slice-listed.ensures c.len-place.ensures c.index-listed-place.is;
      before = fronted lib name books new next listed place c.as_slice-listed.ensures c.len-place.ensures;
    }

-- what is there where a fault cut a round off, as it read the book
cut_reading : (g : Over) (c : In_err-read_next g)
    → CutOff (g.S.Sink.content c.args.sink.now) (g.S.Sink.content c.loop-name.sink) (g.L.Library.files c.args.library.now) (g.L.Library.files c.read_next.new.library) (map string_bytes c.args.names.now)
    c.args.admitting.now c.loop-name.admitting c.read_next.new.books
cut_reading g c =
    cut_between _ _ _ (g.L.Library.files c.loop-name.library) _ _ _ _ c.loop-name.books _ c.loop-name.certified c.in_err-read_next.ensures.err c.in_err-read_next.ensures.files c.loop-name.invariant.so_far

-- and as it worked it
cut_working : (g : Over) (c : In_err-good g)
    → NextBook (g.L.Library.files c.loop-name.library) (map string_bytes c.args.names.now) (string_bytes c.name-item.result) c.loop-name.books c.read_next.new.books
    (take c.len-place.result c.as_slice-listed.result.now) c.index-listed-place.result
    → CutOff (g.S.Sink.content c.args.sink.now) (g.S.Sink.content c.work_book.new.sink) (g.L.Library.files c.args.library.now) (g.L.Library.files c.work_book.new.library) (map string_bytes c.args.names.now)
    c.args.admitting.now c.work_book.new.admitting c.read_next.new.books
cut_working g c next =
    let content = g.S.Sink.content in
    let files = g.L.Library.files in
    let book = c.index-listed-place.result in
    let body = read_body c.loop-name.admitting.working.limits c.loop-name.admitting.working.earlier book.read in
    let end = files c.work_book.new.library in
    cut_within (content c.args.sink.now) (content c.loop-name.sink) (content c.work_book.new.sink) (files c.args.library.now) (files c.loop-name.library) end (map string_bytes c.args.names.now)
    c.args.admitting.now c.loop-name.admitting c.work_book.new.admitting c.loop-name.books c.read_next.new.books c.loop-name.certified (string_bytes c.name-item.result) book
    next.few next.at next.next next.same c.loop-name.invariant.so_far body refl c.in_err-good.ensures.book.part
    (subst (λ (fs : _). StoredPart fs end (files_by (seen_in c.loop-name.books) book.name.0 book.read body.certified)) c.in_ok-read_next.ensures.files
    (subst (λ (ks : _). StoredPart (files c.read_next.new.library) end (files_by (seen_in ks) book.name.0 book.read body.certified)) next.before c.in_err-good.ensures.book.stored))
    c.in_err-good.ensures.led

pub loop-name-init : goal.loop-name-init
loop-name-init g c =
    let content = g.S.Sink.content in
    let names = map string_bytes c.args.names.now in
    record {
      count = ap length c.requires.unread;
      so_far = subst (λ (books : _). SoFar (content c.args.sink.now) (content c.args.sink.now) (g.L.Library.files c.args.library.now) (g.L.Library.files c.args.library.now) names c.args.admitting.now c.args.admitting.now books true) (sym c.requires.unread)
          (so_far_none (content c.args.sink.now) (g.L.Library.files c.args.library.now) names c.args.admitting.now c.requires.begun c.requires.unkept c.requires.unnoted);
      reads = omega arith;
      stores = omega arith;
      puts = omega arith;
    }

pub loop-name-preserved : goal.loop-name-preserved
loop-name-preserved g c =
    let content = g.S.Sink.content in
    let files = g.L.Library.files in
    let inv = c.loop-name.invariant in
    let done = c.in_ok-good.ensures.book in
    let end = files c.work_book.new.library in
    let next = next_book g (goal.at.loop-name-preserved g c).After-work_book in
    let book = c.index-listed-place.result in
    let body = read_body c.loop-name.admitting.working.limits c.loop-name.admitting.working.earlier book.read in
    let names = map string_bytes c.args.names.now in
    record {
      count = ap length next.next.listed ∙ length-append c.loop-name.books (next.next.book ∷ []) ∙ ap (λ k. k + 1) inv.count;
      so_far = subst (λ (all : _). SoFar (content c.args.sink.now) (content c.work_book.new.sink) (files c.args.library.now) end names c.args.admitting.now c.work_book.new.admitting c.read_next.new.books all) (sym c.all_with-certified.ensures)
          (so_far_more (content c.args.sink.now) (content c.loop-name.sink) (content c.work_book.new.sink) (files c.args.library.now) (files c.loop-name.library) end names c.args.admitting.now c.loop-name.admitting c.work_book.new.admitting
          c.loop-name.books c.read_next.new.books c.loop-name.certified c.in_ok-good.good (string_bytes c.name-item.result) book
          next.few next.at next.next next.same inv.so_far body refl
          done.text (subst (λ (fs : _). Stored fs end (files_by (seen_in c.loop-name.books) book.name.0 book.read body.certified)) c.in_ok-read_next.ensures.files
          (subst (λ (ks : _). Stored (files c.read_next.new.library) end (files_by (seen_in ks) book.name.0 book.read body.certified)) next.before done.files))
          c.in_ok-good.ensures.certified c.in_ok-good.ensures.earlier c.in_ok-good.ensures.last c.in_ok-good.ensures.led);
      reads = let before = inv.reads in let after = c.in_ok-read_next.ensures.later in omega arith;
      stores = let before = inv.stores in let same = c.in_ok-read_next.ensures.stores in let after : g.L.Library.store_faults c.read_next.new.library ≤ g.L.Library.store_faults c.work_book.new.library = done.stores in omega arith;
      puts = let before = inv.puts in let after : g.S.Sink.faults c.loop-name.sink ≤ g.S.Sink.faults c.work_book.new.sink = done.later in omega arith;
    }

pub returns-in_err-read_next-clause-part : goal.returns-in_err-read_next-clause-part
returns-in_err-read_next-clause-part g c =
    let p = err_from_is_err_and c.from_residual.result c.from_residual.ensures.1 in
    rw p.1 (cut_reading g (goal.at.returns-in_err-read_next-clause-part g c).In_err-read_next).part

pub returns-in_err-read_next-clause-kept : goal.returns-in_err-read_next-clause-kept
returns-in_err-read_next-clause-kept g c = (cut_reading g (goal.at.returns-in_err-read_next-clause-kept g c).In_err-read_next).kept

pub returns-in_err-read_next-clause-stored : goal.returns-in_err-read_next-clause-stored
returns-in_err-read_next-clause-stored g c =
    let p = err_from_is_err_and c.from_residual.result c.from_residual.ensures.1 in
    rw p.1 (cut_reading g (goal.at.returns-in_err-read_next-clause-stored g c).In_err-read_next).stored

pub returns-in_err-good-clause-part : goal.returns-in_err-good-clause-part
returns-in_err-good-clause-part g c =
    let p = err_from_is_err_and c.from_residual-in_err-good.result c.from_residual-in_err-good.ensures.1 in
    rw p.1 (cut_working g (goal.at.returns-in_err-good-clause-part g c).In_err-good (next_book g (goal.at.returns-in_err-good-clause-part g c).After-work_book)).part

pub returns-in_err-good-clause-kept : goal.returns-in_err-good-clause-kept
returns-in_err-good-clause-kept g c = (cut_working g (goal.at.returns-in_err-good-clause-kept g c).In_err-good (next_book g (goal.at.returns-in_err-good-clause-kept g c).After-work_book)).kept

pub returns-in_err-good-clause-stored : goal.returns-in_err-good-clause-stored
returns-in_err-good-clause-stored g c =
    let p = err_from_is_err_and c.from_residual-in_err-good.result c.from_residual-in_err-good.ensures.1 in
    rw p.1 (cut_working g (goal.at.returns-in_err-good-clause-stored g c).In_err-good (next_book g (goal.at.returns-in_err-good-clause-stored g c).After-work_book)).stored

pub returns-in_err-good-clause-books : goal.returns-in_err-good-clause-books
returns-in_err-good-clause-books g c = (cut_working g (goal.at.returns-in_err-good-clause-books g c).In_err-good (next_book g (goal.at.returns-in_err-good-clause-books g c).After-work_book)).listed

pub returns-clause-all : goal.returns-clause-all
returns-clause-all g c =
    all_listed (g.L.Library.files c.args.library.now) (map string_bytes c.args.names.now) c.loop-name.books (omega (arith, named_length string_bytes c.args.names.now, c.loop-name.invariant.count)) c.loop-name.invariant.so_far.listed

pub returns-in_err-read_next-clause-stored_whole : goal.returns-in_err-read_next-clause-stored_whole
returns-in_err-read_next-clause-stored_whole g c = λ read.
    let files = g.L.Library.files in
    let names = map string_bytes c.args.names.now in
    subst (λ (o : _). Stored (files c.args.library.now) o (worked_books c.args.admitting.now names c.read_next.new.books).files) (sym c.in_err-read_next.ensures.files)
    (subst (λ (books : _). Stored (files c.args.library.now) (files c.loop-name.library) (worked_books c.args.admitting.now names books).files) (sym c.in_err-read_next.ensures.err) c.loop-name.invariant.so_far.worked.files)

pub returns-in_err-read_next-clause-tied : goal.returns-in_err-read_next-clause-tied
returns-in_err-read_next-clause-tied g c =
    let content = g.S.Sink.content in
    let puts = g.S.Sink.faults in
    let files = g.L.Library.files in
    let stores = g.L.Library.store_faults in
    let a = outside (content c.args.sink.now) (puts c.args.sink.now) (files c.args.library.now) (stores c.args.library.now) in
    let b = outside (content c.loop-name.sink) (puts c.loop-name.sink) (files c.read_next.new.library) (stores c.read_next.new.library) in
    let p = err_from_is_err_and c.from_residual.result c.from_residual.ensures.1 in
    rw p.1 (tied_between a b (files c.loop-name.library) (map string_bytes c.args.names.now) c.args.admitting.now c.loop-name.admitting c.loop-name.books c.read_next.new.books c.loop-name.certified (p.0 ≡ faults.Write)
    (λ failed. c.in_err-read_next.ensures.unwritten (cc (p.2, failed))) c.in_err-read_next.ensures.err c.loop-name.invariant.so_far c.in_err-read_next.ensures.files)

pub returns-in_err-good-clause-tied : goal.returns-in_err-good-clause-tied
returns-in_err-good-clause-tied g c =
    let content = g.S.Sink.content in
    let puts = g.S.Sink.faults in
    let files = g.L.Library.files in
    let stores = g.L.Library.store_faults in
    let next = next_book g (goal.at.returns-in_err-good-clause-tied g c).After-work_book in
    let inv = c.loop-name.invariant in
    let done = c.in_err-good.ensures.book in
    let book = c.index-listed-place.result in
    let a = outside (content c.args.sink.now) (puts c.args.sink.now) (files c.args.library.now) (stores c.args.library.now) in
    let b = outside (content c.loop-name.sink) (puts c.loop-name.sink) (files c.read_next.new.library) (stores c.read_next.new.library) in
    let d = outside (content c.work_book.new.sink) (puts c.work_book.new.sink) (files c.work_book.new.library) (stores c.work_book.new.library) in
    let p = err_from_is_err_and c.from_residual-in_err-good.result c.from_residual-in_err-good.ensures.1 in
    let body = read_body c.loop-name.admitting.working.limits c.loop-name.admitting.working.earlier book.read in
    let tied = tied_same b d faults.Write _ p.0 _ p.2 done.tied in
    rw p.1 (tied_within a b d (files c.loop-name.library) (map string_bytes c.args.names.now) c.args.admitting.now c.loop-name.admitting c.loop-name.books c.read_next.new.books c.loop-name.certified
    (string_bytes c.name-item.result) book (p.0 ≡ faults.Write)
    next.few next.at next.next next.same inv.so_far c.in_ok-read_next.ensures.files
    (record { puts = inv.puts; stores = let before = inv.stores in let kept = c.in_ok-read_next.ensures.stores in omega arith })
    (record { puts = done.later; stores = done.stores })
    (subst (λ (ks : _). Tied b d (p.0 ≡ faults.Write) (book_acts (seen_in ks) book.name.0 book.read body)) next.before tied))

pub returns-in_err-good-clause-stores : goal.returns-in_err-good-clause-stores
returns-in_err-good-clause-stores g c =
    let stores = g.L.Library.store_faults in
    let before = c.loop-name.invariant.stores in
    let same = c.in_ok-read_next.ensures.stores in
    let after : stores c.read_next.new.library ≤ stores c.work_book.new.library = c.in_err-good.ensures.book.stores in
    omega arith

pub returns-in_err-good-clause-puts : goal.returns-in_err-good-clause-puts
returns-in_err-good-clause-puts g c =
    let puts = g.S.Sink.faults in
    let before = c.loop-name.invariant.puts in
    let after : puts c.loop-name.sink ≤ puts c.work_book.new.sink = c.in_err-good.ensures.book.later in
    omega arith

pub returns-in_err-good-clause-write : goal.returns-in_err-good-clause-write
returns-in_err-good-clause-write g c = λ failed.
    let stores = g.L.Library.store_faults in
    let before = c.loop-name.invariant.stores in
    let same = c.in_ok-read_next.ensures.stores in
    let kept : stores c.args.library.now ≤ stores c.read_next.new.library = omega arith in
    let done = c.in_err-good.ensures.book in
    let p = err_from_is_err_and c.from_residual-in_err-good.result c.from_residual-in_err-good.ensures.1 in
    rose_over _ _ _ _ _ _ kept done.stores c.loop-name.invariant.puts done.later (done.failed (cc (p.1, p.2, failed)))

-- no book is read in it

pub returns-in_err-good-clause-read : goal.returns-in_err-good-clause-read
returns-in_err-good-clause-read g c = λ failed.
    let p = err_from_is_err_and c.from_residual-in_err-good.result c.from_residual-in_err-good.ensures.1 in
    absurd (c.in_err-good.ensures.book.unread (cc (p.1, p.2, failed)))

pub returns-in_err-good-clause-whole : goal.returns-in_err-good-clause-whole
returns-in_err-good-clause-whole g c = λ failed.
    let p = err_from_is_err_and c.from_residual-in_err-good.result c.from_residual-in_err-good.ensures.1 in
    absurd (c.in_err-good.ensures.book.unread (cc (p.1, p.2, failed)))

pub returns-in_err-good-clause-stored_whole : goal.returns-in_err-good-clause-stored_whole
returns-in_err-good-clause-stored_whole g c = λ failed.
    let p = err_from_is_err_and c.from_residual-in_err-good.result c.from_residual-in_err-good.ensures.1 in
    absurd (c.in_err-good.ensures.book.unread (cc (p.1, p.2, failed)))
