use Rattle.std.proofs.Common.{◌≡◌, ◌∙◌, Err, OnErr, refl, ap, subst}
use Rattle.std.proofs.lemmas.Result.{err_from_is_err_and}
use Rattle.ap_outside.specs.declared.fault.WriteFault.TheVariants as faults
use Rattle.ap_outside.specs.Gains.{GainedPart}
use Rattle.ap_outside.proofs.Gains.{part_to}
use Rattle.ap_books.specs.Texts.{closing}
use Rattle.ap_session.specs.Acts.{outside, GainedLess}
use Rattle.ap_session.specs.Certs.{seen_in, files_by}
use Rattle.ap_session.proofs.Acting.{tied_none, tied_cert, tied_end, if_err}
use Rattle.ap_session.proofs.Unput.{less_to}
use Rattle.ap_session.proofs.book.end_book.Goals as goal

pub returns-in_err-last-clause-tied : goal.returns-in_err-last-clause-tied
returns-in_err-last-clause-tied g c =
    let a = outside (g.S.Sink.content c.args.sink.now) (g.S.Sink.faults c.args.sink.now) (g.L.Library.files c.args.library.now) (g.L.Library.store_faults c.args.library.now) in
    let p = err_from_is_err_and c.from_residual.result c.from_residual.ensures.1 in
    rw p.1 (tied_none a a (p.0 ≡ faults.Failed) _ (λ failed. absurd (cc (p.2, failed))) refl refl)

pub returns-in_err-store_cert-clause-tied : goal.returns-in_err-store_cert-clause-tied
returns-in_err-store_cert-clause-tied g c =
    let content = g.S.Sink.content c.args.sink.now in
    let puts = g.S.Sink.faults c.args.sink.now in
    let files = g.L.Library.files in
    let stores = g.L.Library.store_faults in
    let a = outside content puts (files c.args.library.now) (stores c.args.library.now) in
    let b = outside content puts (files c.store_cert.new.library) (stores c.store_cert.new.library) in
    let p = err_from_is_err_and c.from_residual-in_err-store_cert.result c.from_residual-in_err-store_cert.ensures.1 in
    rw p.1 (tied_cert a b (p.0 ≡ faults.Failed) (seen_in c.args.before.now) c.args.book.now.name.0 c.args.book.now.read _
    c.in_err-store_cert.ensures.certified (λ failed. c.in_err-store_cert.ensures.failed (cc (p.2, failed))) refl c.in_err-store_cert.ensures.part)

pub returns-clause-tied : goal.returns-clause-tied
returns-clause-tied g c =
    let content = g.S.Sink.content in
    let puts = g.S.Sink.faults in
    let files = g.L.Library.files in
    let stores = g.L.Library.store_faults in
    let a = outside (content c.args.sink.now) (puts c.args.sink.now) (files c.args.library.now) (stores c.args.library.now) in
    let b = outside (content c.put_whole.new.sink) (puts c.put_whole.new.sink) (files c.store_cert.new.library) (stores c.store_cert.new.library) in
    let text = c.as_slice-2.result.now in
    let from = content c.args.sink.now in
    let now = content c.put_whole.new.sink in
    let is : text ≡ closing c.args.book.now.name.0 c.is_some.result = cc (c.as_slice-2.ensures, c.in_ok-last.ensures, c.as_slice.ensures) in
    let closed = is ∙ ap (closing c.args.book.now.name.0) c.is_some.ensures in
    if_err c.put_whole.result (λ e err.
    tied_end a b (e ≡ faults.Failed) (files_by (seen_in c.args.before.now) c.args.book.now.name.0 c.args.book.now.read _) _ (λ failed. c.put_whole.ensures.failed (err ∙ ap (λ x. Err x) failed))
    (λ failed. less_to from now text _ (subst (λ (r : _). OnErr r (GainedLess from now text)) err c.put_whole.ensures.unput) closed)
    (part_to from now text _ (subst (λ (r : _). OnErr r (GainedPart from now text)) err c.put_whole.ensures.part) closed)
    c.in_ok-store_cert.ensures.files)
