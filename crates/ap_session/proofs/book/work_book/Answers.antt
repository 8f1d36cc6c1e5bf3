use Rattle.std.proofs.Common.{◌≡◌, refl, subst, arith}
use Rattle.ap_outside.proofs.Gains.{part_none}
use Rattle.ap_books.specs.Bodies.{body_of}
use Rattle.ap_session.specs.declared.fault.Fault.TheVariants as faults
use Rattle.ap_session.specs.Acts.{outside}
use Rattle.ap_session.specs.Admitting.{AdmittingSeen}
use Rattle.ap_session.specs.Session.{read_body}
use Rattle.ap_session.specs.Showing.{BookWorked}
use Rattle.ap_session.specs.Working.{admits, ends}
use Rattle.ap_session.proofs.Acting.{tied_none}
use Rattle.ap_session.proofs.Leading.{led_begun, led_same}
use Rattle.ap_session.proofs.Showing.{book_cut}
use Rattle.ap_session.proofs.Storing.{part_none as files_none}
use Rattle.ap_session.proofs.book.work_book.Goals as goal

pub returns-in-Ok-clause-led : goal.returns-in-Ok-clause-led
returns-in-Ok-clause-led g c =
    led_begun c.args.admitting.now c.begin.new.self c.work_begun.new.admitting c.args.book.now.read c.in-Ok.ensures.ok c.work_begun.ensures.led

pub returns-in-Err-clause-led : goal.returns-in-Err-clause-led
returns-in-Err-clause-led g c =
    led_same c.args.admitting.now c.begin.new.self (read_body c.args.admitting.now.working.limits c.args.admitting.now.working.earlier c.args.book.now.read).log c.in-Err.ensures.err

pub returns-in-Ok-clause-book : goal.returns-in-Ok-clause-book
returns-in-Ok-clause-book g c =
    let content = g.S.Sink.content in
    let puts = g.S.Sink.faults in
    let files = g.L.Library.files in
    let stores = g.L.Library.store_faults in
    let a = outside (content c.args.sink.now) (puts c.args.sink.now) (files c.args.library.now) (stores c.args.library.now) in
    let b = outside (content c.work_begun.new.sink) (puts c.work_begun.new.sink) (files c.work_begun.new.library) (stores c.work_begun.new.library) in
    subst (λ (x : AdmittingSeen). BookWorked a b c.work_begun.result c.args.before.now c.args.book.now (body_of admits ends c.args.book.now.read x.working))
    c.in-Ok.ensures.ok c.work_begun.ensures.book

pub returns-in-Err-clause-book : goal.returns-in-Err-clause-book
returns-in-Err-clause-book g c =
    let a = outside (g.S.Sink.content c.args.sink.now) (g.S.Sink.faults c.args.sink.now) (g.L.Library.files c.args.library.now) (g.L.Library.store_faults c.args.library.now) in
    book_cut a a _ faults.NoMemory c.args.before.now c.args.book.now _ refl (part_none a.content _) (files_none a.files a.files _ refl)
    (tied_none a a (faults.NoMemory ≡ faults.Write) _ (λ failed. absurd (cc failed)) refl refl)
    (omega arith) (omega arith) (λ failed. absurd (cc failed)) (λ failed. absurd (cc failed))
