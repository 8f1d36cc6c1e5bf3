use Rattle.std.proofs.Common.{◌≡◌, ◌+◌, false, drop, arith, subst, sym}
use Rattle.ap_books.specs.Bodies.{worked}
use Rattle.ap_books.proofs.Showing.{at_form}
use Rattle.ap_session.specs.Working.{admits, ends}
use Rattle.ap_session.specs.Admitting.{Behind}
use Rattle.ap_session.proofs.Demoing.{Left, left_none, left_more}
use Rattle.ap_session.proofs.Leading.{behind_same, behind_first, behind_more}
use Rattle.ap_session.proofs.demo.count_events.Goals as goal

pub loop-form-init : goal.loop-form-init
loop-form-init g c = record { left = left_none c.args.forms.now c.args.admitting.now.working c.args.tally.now; onward = λ b more. more }

pub loop-form-preserved : goal.loop-form-preserved
loop-form-preserved g c =
    let forms = c.args.forms.now in
    let i = c.loop-form.form-index in
    let f = c.form-item.result in
    let a = c.loop-form.admitting in
    let b = c.count_event.new.admitting in
    let here = at_form forms i f (omega arith) c.form-item.is in
    let went : (admits a.working f).refused ≡ false = cc (c.in_ok-count_event.ensures.refused, c.if-branch.false) in
    record {
      left = left_more forms (drop (i + 1) forms) f c.args.admitting.now.working a.working b.working c.args.tally.now c.loop-form.tally c.count_event.new.tally
          (subst (λ fs. Left forms fs c.args.admitting.now.working a.working c.args.tally.now c.loop-form.tally) here c.loop-form.invariant.left)
          went c.in_ok-count_event.ensures.next c.in_ok-count_event.ensures.tally;
      onward = λ d more. c.loop-form.invariant.onward d
          (subst (λ fs. Behind a d (worked admits ends fs a.working).log) (sym here)
          (behind_more f (drop (i + 1) forms) a b d c.in_ok-count_event.ensures.behind went c.in_ok-count_event.ensures.next more));
    }

pub returns-in_err-count_event-clause-behind : goal.returns-in_err-count_event-clause-behind
returns-in_err-count_event-clause-behind g c =
    let forms = c.args.forms.now in
    let i = c.loop-form.form-index in
    let f = c.form-item.result in
    let here = at_form forms i f (omega arith) c.form-item.is in
    let a = c.loop-form.admitting in
    let b = c.count_event.new.admitting in
    c.loop-form.invariant.onward b
    (subst (λ fs. Behind a b (worked admits ends fs a.working).log) (sym here)
    (behind_first f (drop (i + 1) forms) a b c.in_err-count_event.ensures.behind))

pub returns-then-branch-clause-behind : goal.returns-then-branch-clause-behind
returns-then-branch-clause-behind g c =
    let forms = c.args.forms.now in
    let i = c.loop-form.form-index in
    let f = c.form-item.result in
    let here = at_form forms i f (omega arith) c.form-item.is in
    let a = c.loop-form.admitting in
    let b = c.count_event.new.admitting in
    c.loop-form.invariant.onward b
    (subst (λ fs. Behind a b (worked admits ends fs a.working).log) (sym here)
    (behind_first f (drop (i + 1) forms) a b c.in_ok-count_event.ensures.behind))

pub returns-in_err-ended-clause-behind : goal.returns-in_err-ended-clause-behind
returns-in_err-ended-clause-behind g c =
    let a = c.loop-form.admitting in
    c.loop-form.invariant.onward a (behind_same a (worked admits ends (drop c.loop-form.form-index c.args.forms.now) a.working).log)

pub returns-clause-behind : goal.returns-clause-behind
returns-clause-behind g c =
    let a = c.loop-form.admitting in
    c.loop-form.invariant.onward a (behind_same a (worked admits ends (drop c.loop-form.form-index c.args.forms.now) a.working).log)
