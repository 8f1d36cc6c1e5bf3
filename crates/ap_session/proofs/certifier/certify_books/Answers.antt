use Rattle.std.proofs.Common.{◌≡◌, ◌∙◌, refl, inr, ap, sym, true≢false, arith}
use Rattle.ap_outside.proofs.Gains.{rose_within}
use Rattle.ap_session.specs.declared.fault.Fault.TheVariants as faults
use Rattle.ap_session.specs.declared.report.Status.TheVariants as statuses
use Rattle.ap_session.specs.Acts.{outside}
use Rattle.ap_session.specs.Admitting.{left_in}
use Rattle.ap_session.specs.Command.{shown_order}
use Rattle.ap_session.specs.Session.{is_done, worked_books}
use Rattle.ap_session.proofs.Sessions.{command_text, command_part, command_cut, command_whole, command_drops, command_passed, command_files, command_stored, command_tied, command_traced, worked_certs, only_read, only_write, not_done}
use Rattle.ap_session.proofs.Storing.{part_all, other_stays, other_stays_part}
use Rattle.ap_session.proofs.certifier.certify_books.Goals as goal

pub returns-in-Ok-clause-text : goal.returns-in-Ok-clause-text
returns-in-Ok-clause-text g c = λ done.
    let content = g.S.Sink.content in
    command_text (content c.args.sink.now) (content c.work_books-ended.new.sink) (content c.end.new.sink) (shown_order c.args.order) c.new-admitting.result c.work_books-ended.new.books c.end.result.books c.end.result.drops
    c.new-admitting.ensures.limits c.end.ensures.books c.in-Ok.ensures.worked.text (c.end.ensures.text done)

pub returns-in-Ok-clause-part : goal.returns-in-Ok-clause-part
returns-in-Ok-clause-part g c = λ cut.
    let content = g.S.Sink.content in
    command_part (content c.args.sink.now) (content c.work_books-ended.new.sink) (content c.end.new.sink) (shown_order c.args.order) c.new-admitting.result c.work_books-ended.new.books c.end.result.books c.end.result.drops
    c.new-admitting.ensures.limits c.end.ensures.books c.in-Ok.ensures.worked.text (c.end.ensures.part cut)

pub returns-in-Ok-clause-drops : goal.returns-in-Ok-clause-drops
returns-in-Ok-clause-drops g c =
    command_drops (shown_order c.args.order) c.new-admitting.result c.work_books-ended.new.admitting c.work_books-ended.new.books c.end.result.books c.end.result.drops
    c.new-admitting.ensures.limits c.end.ensures.books c.in-Ok.ensures.kept.drops c.end.ensures.drops

pub returns-in-Err-clause-part : goal.returns-in-Err-clause-part
returns-in-Err-clause-part g c = λ cut.
    let content = g.S.Sink.content in
    command_cut (content c.args.sink.now) (content c.work_books-ended.new.sink) (shown_order c.args.order) c.new-admitting.result c.work_books-ended.new.books c.cut_off.result.books c.cut_off.result.drops
    c.new-admitting.ensures.limits c.cut_off.ensures.books c.in-Err.ensures.part

pub returns-in-Err-clause-whole : goal.returns-in-Err-clause-whole
returns-in-Err-clause-whole g c = λ read.
    let content = g.S.Sink.content in
    let fault : c.in-Err.fault ≡ faults.Read = only_read c.in-Err.fault (sym c.cut_off.ensures.status ∙ read) in
    command_whole (content c.args.sink.now) (content c.work_books-ended.new.sink) (shown_order c.args.order) c.new-admitting.result c.work_books-ended.new.books c.cut_off.result.books
    c.new-admitting.ensures.limits c.cut_off.ensures.books (c.in-Err.ensures.whole (cc fault))

pub returns-in-Err-clause-drops : goal.returns-in-Err-clause-drops
returns-in-Err-clause-drops g c =
    command_drops (shown_order c.args.order) c.new-admitting.result c.work_books-ended.new.admitting c.work_books-ended.new.books c.cut_off.result.books c.cut_off.result.drops
    c.new-admitting.ensures.limits c.cut_off.ensures.books c.in-Err.ensures.kept.drops c.cut_off.ensures.drops

pub returns-in-Ok-clause-write : goal.returns-in-Ok-clause-write
returns-in-Ok-clause-write g c = λ written.
    let faults = g.S.Sink.faults in
    inr (rose_within (faults c.args.sink.now) (faults c.work_books-ended.new.sink) (faults c.end.new.sink) (faults c.end.new.sink) c.in-Ok.ensures.puts c.end.ensures.later (c.end.ensures.write written) (omega arith))

pub returns-in-Ok-clause-files : goal.returns-in-Ok-clause-files
returns-in-Ok-clause-files g c = λ done.
    let files = g.L.Library.files in
    command_files (files c.args.library.now) (files c.work_books-ended.new.library) (files c.work_books-ended.new.library) (shown_order c.args.order) c.new-admitting.result c.work_books-ended.new.books c.end.result.books
    c.new-admitting.ensures.limits c.end.ensures.books refl c.in-Ok.ensures.worked.files

pub returns-in-Ok-clause-stored : goal.returns-in-Ok-clause-stored
returns-in-Ok-clause-stored g c = λ cut.
    let files = g.L.Library.files in
    part_all (files c.args.library.now) (files c.work_books-ended.new.library) _
    (command_files (files c.args.library.now) (files c.work_books-ended.new.library) (files c.work_books-ended.new.library) (shown_order c.args.order) c.new-admitting.result c.work_books-ended.new.books c.end.result.books
    c.new-admitting.ensures.limits c.end.ensures.books refl c.in-Ok.ensures.worked.files)

pub returns-in-Err-clause-stored : goal.returns-in-Err-clause-stored
returns-in-Err-clause-stored g c = λ cut.
    let files = g.L.Library.files in
    command_stored (files c.args.library.now) (files c.work_books-ended.new.library) (files c.work_books-ended.new.library) (shown_order c.args.order) c.new-admitting.result c.work_books-ended.new.books c.cut_off.result.books
    c.new-admitting.ensures.limits c.cut_off.ensures.books refl c.in-Err.ensures.stored

pub returns-in-Err-clause-files : goal.returns-in-Err-clause-files
returns-in-Err-clause-files g c = λ done. absurd (true≢false (sym done ∙ ap is_done c.cut_off.ensures.status ∙ not_done c.in-Err.fault))

pub returns-in-Ok-clause-others : goal.returns-in-Ok-clause-others
returns-in-Ok-clause-others g c = λ name other.
    let files = g.L.Library.files in
    let a = c.new-admitting.result in
    let books = c.work_books-ended.new.books in
    let names = (shown_order c.args.order).books in
    other_stays (files c.args.library.now) (files c.work_books-ended.new.library) (worked_books a names books).files name c.in-Ok.ensures.worked.files (worked_certs a names books) other

pub returns-in-Err-clause-others : goal.returns-in-Err-clause-others
returns-in-Err-clause-others g c = λ name other.
    let files = g.L.Library.files in
    let a = c.new-admitting.result in
    let books = c.work_books-ended.new.books in
    let names = (shown_order c.args.order).books in
    other_stays_part (files c.args.library.now) (files c.work_books-ended.new.library) (worked_books a names books).files name c.in-Err.ensures.stored (worked_certs a names books) other

pub returns-in-Err-clause-text : goal.returns-in-Err-clause-text
returns-in-Err-clause-text g c = λ done. absurd (true≢false (sym done ∙ ap is_done c.cut_off.ensures.status ∙ not_done c.in-Err.fault))

pub returns-in-Err-clause-status : goal.returns-in-Err-clause-status
returns-in-Err-clause-status g c = λ done. absurd (true≢false (sym done ∙ ap is_done c.cut_off.ensures.status ∙ not_done c.in-Err.fault))

pub returns-in-Err-clause-world : goal.returns-in-Err-clause-world
returns-in-Err-clause-world g c = λ done. absurd (true≢false (sym done ∙ ap is_done c.cut_off.ensures.status ∙ not_done c.in-Err.fault))

pub returns-in-Err-clause-all : goal.returns-in-Err-clause-all
returns-in-Err-clause-all g c = λ done. absurd (true≢false (sym done ∙ ap is_done c.cut_off.ensures.status ∙ not_done c.in-Err.fault))

pub returns-in-Ok-clause-passed : goal.returns-in-Ok-clause-passed
returns-in-Ok-clause-passed g c =
    command_passed (shown_order c.args.order) c.new-admitting.result c.work_books-ended.new.books c.end.result.books (left_in c.work_books-ended.new.admitting) c.end.result.world
    c.new-admitting.ensures.limits c.end.ensures.books c.end.ensures.world c.in-Ok.ensures.kept.passed

pub returns-in-Err-clause-passed : goal.returns-in-Err-clause-passed
returns-in-Err-clause-passed g c =
    command_passed (shown_order c.args.order) c.new-admitting.result c.work_books-ended.new.books c.cut_off.result.books (left_in c.work_books-ended.new.admitting) c.cut_off.result.world
    c.new-admitting.ensures.limits c.cut_off.ensures.books c.cut_off.ensures.world c.in-Err.ensures.kept.passed

pub returns-in-Err-clause-read : goal.returns-in-Err-clause-read
returns-in-Err-clause-read g c = λ read.
    let fault : c.in-Err.fault ≡ faults.Read = only_read c.in-Err.fault (sym c.cut_off.ensures.status ∙ read) in
    c.in-Err.ensures.read (cc fault)

pub returns-in-Err-clause-write : goal.returns-in-Err-clause-write
returns-in-Err-clause-write g c = λ written.
    let fault : c.in-Err.fault ≡ faults.Write = only_write c.in-Err.fault (sym c.cut_off.ensures.status ∙ written) in
    c.in-Err.ensures.write (cc fault)

pub returns-in-Err-clause-stored_whole : goal.returns-in-Err-clause-stored_whole
returns-in-Err-clause-stored_whole g c = λ read.
    let files = g.L.Library.files in
    let fault : c.in-Err.fault ≡ faults.Read = only_read c.in-Err.fault (sym c.cut_off.ensures.status ∙ read) in
    command_files (files c.args.library.now) (files c.work_books-ended.new.library) (files c.work_books-ended.new.library) (shown_order c.args.order) c.new-admitting.result c.work_books-ended.new.books c.cut_off.result.books
    c.new-admitting.ensures.limits c.cut_off.ensures.books refl (c.in-Err.ensures.stored_whole (cc fault))

pub returns-in-Ok-clause-tied : goal.returns-in-Ok-clause-tied
returns-in-Ok-clause-tied g c = λ cut.
    let content = g.S.Sink.content in
    let puts = g.S.Sink.faults in
    let files = g.L.Library.files in
    let stores = g.L.Library.store_faults in
    let end = c.work_books-ended.new in
    let a = outside (content c.args.sink.now) (puts c.args.sink.now) (files c.args.library.now) (stores c.args.library.now) in
    let b = outside (content end.sink) (puts end.sink) (files end.library) (stores end.library) in
    let d = outside (content c.end.new.sink) (puts c.end.new.sink) (files end.library) (stores end.library) in
    command_traced a b d (c.end.result.status ≡ statuses.WriteFault) (shown_order c.args.order) c.new-admitting.result end.admitting end.books c.end.result.books c.end.result.drops c.in-Ok.certified
    c.new-admitting.ensures.limits c.end.ensures.books
    (record { puts = c.in-Ok.ensures.puts; stores = c.in-Ok.ensures.stores })
    (record { puts = c.end.ensures.later; stores = omega arith })
    c.in-Ok.ensures.worked c.end.ensures.write c.end.ensures.unput (c.end.ensures.part cut) refl

pub returns-in-Err-clause-tied : goal.returns-in-Err-clause-tied
returns-in-Err-clause-tied g c = λ cut.
    let content = g.S.Sink.content in
    let puts = g.S.Sink.faults in
    let files = g.L.Library.files in
    let stores = g.L.Library.store_faults in
    let end = c.work_books-ended.new in
    let a = outside (content c.args.sink.now) (puts c.args.sink.now) (files c.args.library.now) (stores c.args.library.now) in
    let b = outside (content end.sink) (puts end.sink) (files end.library) (stores end.library) in
    command_tied a b (c.in-Err.fault ≡ faults.Write) (c.cut_off.result.status ≡ statuses.WriteFault) (shown_order c.args.order) c.new-admitting.result end.books c.cut_off.result.books c.cut_off.result.drops
    c.new-admitting.ensures.limits c.cut_off.ensures.books (λ written. only_write c.in-Err.fault (sym c.cut_off.ensures.status ∙ written)) c.in-Err.ensures.tied
