use Rattle.std.proofs.Common.{◌∙◌}
use Rattle.ap_books.specs.Bodies.{body_by}
use Rattle.ap_session.specs.Working.{admits, ends}
use Rattle.ap_session.specs.Session.{kept_by}
use Rattle.ap_session.proofs.Leading.{led_none, led_kept}
use Rattle.ap_session.proofs.Demoing.{certified_passed, certified_told}
use Rattle.ap_session.proofs.demo.count_begun.Goals as goal

pub returns-in_err-certified-clause-led : goal.returns-in_err-certified-clause-led
returns-in_err-certified-clause-led g c =
    led_none c.args.admitting.now c.count_body.new.admitting (body_by admits ends c.args.events.now c.args.admitting.now.working).log c.requires.begun c.requires.unkept c.count_body.ensures.behind

pub keep-requires : goal.keep-requires
keep-requires g c =
    certified_passed c.args.events.now c.args.admitting.now.working c.count_body.new.admitting.working (c.in_ok-certified.ensures.certified ∙ c.if-not-certified.false) c.in_ok-certified.ensures.state

pub returns-clause-led : goal.returns-clause-led
returns-clause-led g c =
    let a = c.args.admitting.now in
    let b = c.count_body.new.admitting in
    led_kept a b c.keep.new.self (body_by admits ends c.args.events.now a.working).log (kept_by b.working.second b.working.world) c.count_body.ensures.behind c.in_ok-keep.ensures.left
    (certified_told c.args.events.now a.working b.working (c.in_ok-certified.ensures.certified ∙ c.if-not-certified.false) c.in_ok-certified.ensures.state) c.keep.ensures.limits c.keep.ensures.notes c.keep.ensures.workers
