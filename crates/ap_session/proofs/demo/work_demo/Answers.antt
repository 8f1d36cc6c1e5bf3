use Rattle.std.proofs.Common.{refl}
use Rattle.ap_session.specs.Command.{shown_demo}
use Rattle.ap_session.specs.Session.{demo_session}
use Rattle.ap_session.proofs.Demoing.{demo_is, demo_certified, demo_last, demo_led}
use Rattle.ap_session.proofs.Leading.{led_same}
use Rattle.ap_session.proofs.demo.work_demo.Goals as goal

pub returns-in_err-events-clause-led : goal.returns-in_err-events-clause-led
returns-in_err-events-clause-led g c = led_same c.args.admitting.now c.args.admitting.now (demo_session (shown_demo c.args.demo)).told refl

pub returns-in_err-begin-clause-led : goal.returns-in_err-begin-clause-led
returns-in_err-begin-clause-led g c = led_same c.args.admitting.now c.begin.new.self (demo_session (shown_demo c.args.demo)).told c.in_err-begin.ensures.err

pub returns-in_err-certified-clause-led : goal.returns-in_err-certified-clause-led
returns-in_err-certified-clause-led g c =
    demo_led (shown_demo c.args.demo) c.args.admitting.now c.begin.new.self c.in_ok-events.events c.requires.limits c.requires.unkept c.in_ok-begin.ensures.ok c.in_ok-events.ensures
    c.count_begun.new.admitting c.count_begun.ensures.led

pub returns-in_err-text-clause-led : goal.returns-in_err-text-clause-led
returns-in_err-text-clause-led g c =
    demo_led (shown_demo c.args.demo) c.args.admitting.now c.begin.new.self c.in_ok-events.events c.requires.limits c.requires.unkept c.in_ok-begin.ensures.ok c.in_ok-events.ensures
    c.count_begun.new.admitting c.count_begun.ensures.led

pub returns-clause-led : goal.returns-clause-led
returns-clause-led g c =
    demo_led (shown_demo c.args.demo) c.args.admitting.now c.begin.new.self c.in_ok-events.events c.requires.limits c.requires.unkept c.in_ok-begin.ensures.ok c.in_ok-events.ensures
    c.count_begun.new.admitting c.count_begun.ensures.led

pub returns-clause-text : goal.returns-clause-text
returns-clause-text g c =
    demo_is (shown_demo c.args.demo) c.args.admitting.now c.begin.new.self c.in_ok-events.events c.requires.limits c.requires.unkept c.in_ok-begin.ensures.ok c.in_ok-events.ensures
    c.count_begun.new.tally c.in_ok-text.text c.in_ok-certified.certified
    c.in_ok-certified.ensures.events c.in_ok-certified.ensures.goals c.in_ok-certified.ensures.certified c.in_ok-text.ensures

pub returns-clause-certified : goal.returns-clause-certified
returns-clause-certified g c =
    demo_certified (shown_demo c.args.demo) c.args.admitting.now c.begin.new.self c.in_ok-events.events c.requires.limits c.requires.unkept c.in_ok-begin.ensures.ok c.in_ok-events.ensures
    c.in_ok-certified.certified c.in_ok-certified.ensures.certified

pub returns-clause-last : goal.returns-clause-last
returns-clause-last g c =
    demo_last (shown_demo c.args.demo) c.args.admitting.now c.begin.new.self c.in_ok-events.events c.requires.limits c.requires.unkept c.in_ok-begin.ensures.ok c.in_ok-events.ensures
    _ c.in_ok-certified.ensures.last
