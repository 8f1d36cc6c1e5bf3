use Rattle.std.proofs.Common.{◌≡◌, ◌∙◌, Option, Some, map, string_bytes, refl, ap, sym, subst}
use Rattle.std.specs.Prelude.{option_map}
use Rattle.ap_plain.specs.Ends.{walks_in}
use Rattle.ap_plain.specs.Drops.{DividedWalks}
use Rattle.ap_session.specs.declared.report.Status.TheVariants as statuses
use Rattle.ap_session.specs.Acts.{outside, Tied}
use Rattle.ap_session.specs.Command.{Command, command_of, shown_command, shown_demo}
use Rattle.ap_session.specs.Session.{session, reads_in, acts_of, demo_session}
use Rattle.ap_session.specs.Texts.{usage_text}
use Rattle.ap_session.proofs.Acting.{tied_none}
use Rattle.ap_session.proofs.Sessions.{session_agrees, text_tied}
use Rattle.ap_session.proofs.Soundness.{session_sound}
use Rattle.ap_session.proofs.Starting.{start_has}
use Rattle.ap_plain.proofs.Telling.{notes_none}
use Rattle.ap_session.proofs.certifier.certify.Goals as goal

pub returns-in_default-clause-all_sound : goal.returns-in_default-clause-all_sound
returns-in_default-clause-all_sound g c =
    session_sound c.nested_events_are_sound.ensures.first c.nested_events_are_sound.ensures.again c.worlds_grow.ensures.grows c.worlds_grow.ensures.tells c.again_is_covered.ensures c.ground_is_sound.ensures (command_of (map string_bytes c.args.words.now)) (reads_in c.no_report.result.books)

pub returns-in_default-clause-drops : goal.returns-in_default-clause-drops
returns-in_default-clause-drops g c =
    let told = (session (command_of (map string_bytes c.args.words.now)) (reads_in c.no_report.result.books)).told in
    subst (λ notes. DividedWalks notes (walks_in told)) (sym c.no_report.ensures.drops) (notes_none told)

pub returns-in-Ok-Some-Certify-clause-all_sound : goal.returns-in-Ok-Some-Certify-clause-all_sound
returns-in-Ok-Some-Certify-clause-all_sound g c =
    session_sound c.nested_events_are_sound.ensures.first c.nested_events_are_sound.ensures.again c.worlds_grow.ensures.grows c.worlds_grow.ensures.tells c.again_is_covered.ensures c.ground_is_sound.ensures (command_of (map string_bytes c.args.words.now)) (reads_in c.certify_books.result.books)

pub certify_books-requires-clause-functions : goal.certify_books-requires-clause-functions
certify_books-requires-clause-functions g c κs within = start_has c.in-Ok.world c.in-Ok.ensures

pub returns-in-Err-clause-all_sound : goal.returns-in-Err-clause-all_sound
returns-in-Err-clause-all_sound g c =
    session_sound c.nested_events_are_sound.ensures.first c.nested_events_are_sound.ensures.again c.worlds_grow.ensures.grows c.worlds_grow.ensures.tells c.again_is_covered.ensures c.ground_is_sound.ensures (command_of (map string_bytes c.args.words.now)) (reads_in c.no_report-in-Err.result.books)

pub returns-in-Err-clause-drops : goal.returns-in-Err-clause-drops
returns-in-Err-clause-drops g c =
    let told = (session (command_of (map string_bytes c.args.words.now)) (reads_in c.no_report-in-Err.result.books)).told in
    subst (λ notes. DividedWalks notes (walks_in told)) (sym c.no_report-in-Err.ensures.drops) (notes_none told)

pub returns-in-Ok-Some-Show-clause-all_sound : goal.returns-in-Ok-Some-Show-clause-all_sound
returns-in-Ok-Some-Show-clause-all_sound g c =
    session_sound c.nested_events_are_sound.ensures.first c.nested_events_are_sound.ensures.again c.worlds_grow.ensures.grows c.worlds_grow.ensures.tells c.again_is_covered.ensures c.ground_is_sound.ensures (command_of (map string_bytes c.args.words.now)) (reads_in c.certify_demo.result.books)

pub certify_demo-requires-clause-functions : goal.certify_demo-requires-clause-functions
certify_demo-requires-clause-functions g c κs within = start_has c.in-Ok.world c.in-Ok.ensures

pub returns-in_default-clause-acts : goal.returns-in_default-clause-acts
returns-in_default-clause-acts g c = session_agrees (command_of (map string_bytes c.args.words.now)) (reads_in c.no_report.result.books)

pub returns-in-Ok-Some-Certify-clause-acts : goal.returns-in-Ok-Some-Certify-clause-acts
returns-in-Ok-Some-Certify-clause-acts g c = session_agrees (command_of (map string_bytes c.args.words.now)) (reads_in c.certify_books.result.books)

pub returns-in-Ok-Some-Show-clause-acts : goal.returns-in-Ok-Some-Show-clause-acts
returns-in-Ok-Some-Show-clause-acts g c = session_agrees (command_of (map string_bytes c.args.words.now)) (reads_in c.certify_demo.result.books)

pub returns-in-Ok-None-clause-acts : goal.returns-in-Ok-None-clause-acts
returns-in-Ok-None-clause-acts g c = session_agrees (command_of (map string_bytes c.args.words.now)) (reads_in c.usage_report.result.books)

pub returns-in-Err-clause-acts : goal.returns-in-Err-clause-acts
returns-in-Err-clause-acts g c = session_agrees (command_of (map string_bytes c.args.words.now)) (reads_in c.no_report-in-Err.result.books)

pub returns-in_default-clause-tied : goal.returns-in_default-clause-tied
returns-in_default-clause-tied g c = λ cut.
    let a = outside (g.S.Sink.content c.args.sink.now) (g.S.Sink.faults c.args.sink.now) (g.L.Library.files c.args.library.now) (g.L.Library.store_faults c.args.library.now) in
    tied_none a a (c.no_report.result.status ≡ statuses.WriteFault) _ (λ written. absurd (cc (c.no_report.ensures.status, written))) refl refl

pub returns-in-Err-clause-tied : goal.returns-in-Err-clause-tied
returns-in-Err-clause-tied g c = λ cut.
    let a = outside (g.S.Sink.content c.args.sink.now) (g.S.Sink.faults c.args.sink.now) (g.L.Library.files c.args.library.now) (g.L.Library.store_faults c.args.library.now) in
    tied_none a a (c.no_report-in-Err.result.status ≡ statuses.WriteFault) _ (λ written. absurd (cc (c.no_report-in-Err.ensures.status, written))) refl refl

pub returns-in-Ok-Some-Certify-clause-tied : goal.returns-in-Ok-Some-Certify-clause-tied
returns-in-Ok-Some-Certify-clause-tied g c = λ cut.
    let files = g.L.Library.files in
    let stores = g.L.Library.store_faults in
    let r = c.certify_books.result in
    let a = outside (g.S.Sink.content c.args.sink.now) (g.S.Sink.faults c.args.sink.now) (files c.args.library.now) (stores c.args.library.now) in
    let b = outside (g.S.Sink.content c.certify_books.new.sink) (g.S.Sink.faults c.certify_books.new.sink) (files c.certify_books.new.library) (stores c.certify_books.new.library) in
    let is = ap (option_map shown_command) (sym (c.in-Ok-Some-Certify.field-0-is ∙ ap Some c.in-Ok-Some-Certify.field-0-0-is)) ∙ c.in-Ok-Some-Certify.ensures in
    subst (λ (k : Option Command). Tied a b (r.status ≡ statuses.WriteFault) (acts_of k (session k (reads_in r.books)) r.drops)) is
    (c.certify_books.ensures.tied cut)

pub returns-in-Ok-Some-Show-clause-tied : goal.returns-in-Ok-Some-Show-clause-tied
returns-in-Ok-Some-Show-clause-tied g c = λ cut.
    let files = g.L.Library.files in
    let stores = g.L.Library.store_faults in
    let r = c.certify_demo.result in
    let a = outside (g.S.Sink.content c.args.sink.now) (g.S.Sink.faults c.args.sink.now) (files c.args.library.now) (stores c.args.library.now) in
    let b = outside (g.S.Sink.content c.certify_demo.new.sink) (g.S.Sink.faults c.certify_demo.new.sink) (files c.args.library.now) (stores c.args.library.now) in
    let is = ap (option_map shown_command) (sym (c.in-Ok-Some-Show.field-0-is ∙ ap Some c.in-Ok-Some-Show.field-0-0-is)) ∙ c.in-Ok-Some-Show.ensures in
    subst (λ (k : Option Command). Tied a b (r.status ≡ statuses.WriteFault) (acts_of k (session k (reads_in r.books)) r.drops)) is
    (text_tied a b (r.status ≡ statuses.WriteFault) (demo_session (shown_demo c.in-Ok-Some-Show.demo)).text c.certify_demo.ensures.write c.certify_demo.ensures.unput (c.certify_demo.ensures.part cut) refl)

pub returns-in-Ok-None-clause-tied : goal.returns-in-Ok-None-clause-tied
returns-in-Ok-None-clause-tied g c = λ cut.
    let files = g.L.Library.files in
    let stores = g.L.Library.store_faults in
    let r = c.usage_report.result in
    let a = outside (g.S.Sink.content c.args.sink.now) (g.S.Sink.faults c.args.sink.now) (files c.args.library.now) (stores c.args.library.now) in
    let b = outside (g.S.Sink.content c.usage_report.new.sink) (g.S.Sink.faults c.usage_report.new.sink) (files c.args.library.now) (stores c.args.library.now) in
    let is = ap (option_map shown_command) (sym c.in-Ok-None.field-0-is) ∙ c.in-Ok-None.ensures in
    subst (λ (k : Option Command). Tied a b (r.status ≡ statuses.WriteFault) (acts_of k (session k (reads_in r.books)) r.drops)) is
    (text_tied a b (r.status ≡ statuses.WriteFault) usage_text c.usage_report.ensures.write c.usage_report.ensures.unput (c.usage_report.ensures.part cut) refl)
