use Rattle.std.proofs.Common.{◌≡◌, ◌≤◌, ◌∙◌, [], true≢false, arith, ap, sym, subst}
use Rattle.ap_outside.specs.declared.fault.WriteFault.TheVariants as write_faults
use Rattle.ap_outside.proofs.Gains.{gained_more, part_first, part_next, rose_within}
use Rattle.ap_session.specs.Admitting.{left_in}
use Rattle.ap_session.specs.Command.{shown_demo}
use Rattle.ap_session.specs.Working.{start}
use Rattle.ap_session.specs.Session.{PassedThrough, demo_session, is_done}
use Rattle.ap_session.proofs.Demoing.{led_passed, led_drops, led_alone}
use Rattle.ap_session.proofs.Sessions.{only_read, only_write, not_done}
use Rattle.ap_session.proofs.Unput.{none_left}
use Rattle.ap_session.proofs.certifier.certify_demo.Goals as goal

pub returns-in-Ok-clause-text : goal.returns-in-Ok-clause-text
returns-in-Ok-clause-text g c = λ done.
    let content = g.S.Sink.content in
    gained_more (content c.args.sink.now) (content c.show_demo-ended.new.sink) (content c.end.new.sink) (demo_session (shown_demo c.args.demo)).text [] c.in-Ok.ensures.text (c.end.ensures.text done)

pub returns-in-Ok-clause-part : goal.returns-in-Ok-clause-part
returns-in-Ok-clause-part g c = λ cut.
    let content = g.S.Sink.content in
    part_next (content c.args.sink.now) (content c.show_demo-ended.new.sink) (content c.end.new.sink) (demo_session (shown_demo c.args.demo)).text [] c.in-Ok.ensures.text (c.end.ensures.part cut)

pub returns-in-Err-clause-part : goal.returns-in-Err-clause-part
returns-in-Err-clause-part g c = λ cut.
    let content = g.S.Sink.content in
    part_first (content c.args.sink.now) (content c.show_demo-ended.new.sink) (demo_session (shown_demo c.args.demo)).text [] c.in-Err.ensures.part

pub returns-in-Ok-clause-passed : goal.returns-in-Ok-clause-passed
returns-in-Ok-clause-passed g c =
    let s = demo_session (shown_demo c.args.demo) in
    let begun : left_in c.new-admitting.result ≡ start = c.new-admitting.ensures.left ∙ c.requires.begun in
    subst (λ w. PassedThrough s w) (sym c.end.ensures.world) (led_passed s c.new-admitting.result c.show_demo-ended.new.admitting begun c.show_demo-ended.ensures.led)

pub returns-in-Err-clause-passed : goal.returns-in-Err-clause-passed
returns-in-Err-clause-passed g c =
    let s = demo_session (shown_demo c.args.demo) in
    let begun : left_in c.new-admitting.result ≡ start = c.new-admitting.ensures.left ∙ c.requires.begun in
    subst (λ w. PassedThrough s w) (sym c.cut_off.ensures.world) (led_passed s c.new-admitting.result c.show_demo-ended.new.admitting begun c.show_demo-ended.ensures.led)

pub returns-in-Ok-clause-drops : goal.returns-in-Ok-clause-drops
returns-in-Ok-clause-drops g c =
    led_drops (demo_session (shown_demo c.args.demo)) c.new-admitting.result c.show_demo-ended.new.admitting c.end.result.drops c.new-admitting.ensures.notes c.show_demo-ended.ensures.led c.end.ensures.drops

pub returns-in-Err-clause-drops : goal.returns-in-Err-clause-drops
returns-in-Err-clause-drops g c =
    led_drops (demo_session (shown_demo c.args.demo)) c.new-admitting.result c.show_demo-ended.new.admitting c.cut_off.result.drops c.new-admitting.ensures.notes c.show_demo-ended.ensures.led c.cut_off.ensures.drops

pub returns-in-Ok-clause-alone : goal.returns-in-Ok-clause-alone
returns-in-Ok-clause-alone g c = λ one.
    led_alone (demo_session (shown_demo c.args.demo)) c.new-admitting.result c.show_demo-ended.new.admitting c.end.result.drops c.new-admitting.ensures.notes c.show_demo-ended.ensures.led c.end.ensures.drops
    (subst (λ n. n ≤ 1) (sym c.new-admitting.ensures.workers) one)

pub returns-in-Err-clause-alone : goal.returns-in-Err-clause-alone
returns-in-Err-clause-alone g c = λ one.
    led_alone (demo_session (shown_demo c.args.demo)) c.new-admitting.result c.show_demo-ended.new.admitting c.cut_off.result.drops c.new-admitting.ensures.notes c.show_demo-ended.ensures.led c.cut_off.ensures.drops
    (subst (λ n. n ≤ 1) (sym c.new-admitting.ensures.workers) one)

pub returns-in-Ok-clause-write : goal.returns-in-Ok-clause-write
returns-in-Ok-clause-write g c = λ written.
    let faults = g.S.Sink.faults in
    rose_within (faults c.args.sink.now) (faults c.show_demo-ended.new.sink) (faults c.end.new.sink) (faults c.end.new.sink) c.show_demo-ended.ensures.later c.end.ensures.later (c.end.ensures.write written) (omega arith)

pub returns-in-Err-clause-text : goal.returns-in-Err-clause-text
returns-in-Err-clause-text g c = λ done. absurd (true≢false (sym done ∙ ap is_done c.cut_off.ensures.status ∙ not_done c.at_write.result))

pub returns-in-Err-clause-status : goal.returns-in-Err-clause-status
returns-in-Err-clause-status g c = λ done. absurd (true≢false (sym done ∙ ap is_done c.cut_off.ensures.status ∙ not_done c.at_write.result))

pub returns-in-Err-clause-world : goal.returns-in-Err-clause-world
returns-in-Err-clause-world g c = λ done. absurd (true≢false (sym done ∙ ap is_done c.cut_off.ensures.status ∙ not_done c.at_write.result))

pub returns-in-Err-clause-read : goal.returns-in-Err-clause-read
returns-in-Err-clause-read g c = λ read. c.at_write.ensures.unread (only_read c.at_write.result (sym c.cut_off.ensures.status ∙ read))

pub returns-in-Err-clause-write : goal.returns-in-Err-clause-write
returns-in-Err-clause-write g c = λ written.
    let fault : c.in-Err.fault ≡ write_faults.Failed = c.at_write.ensures.failed (only_write c.at_write.result (sym c.cut_off.ensures.status ∙ written)) in
    c.in-Err.ensures.failed (cc fault)

pub returns-in-Ok-clause-unput : goal.returns-in-Ok-clause-unput
returns-in-Ok-clause-unput g c = λ written. absurd (none_left _ _ (c.end.ensures.unput written))

pub returns-in-Err-clause-unput : goal.returns-in-Err-clause-unput
returns-in-Err-clause-unput g c = λ written.
    let fault : c.in-Err.fault ≡ write_faults.Failed = c.at_write.ensures.failed (only_write c.at_write.result (sym c.cut_off.ensures.status ∙ written)) in
    c.in-Err.ensures.unput (cc fault)
