use Rattle.std.proofs.Common.{◌≤◌, ◌+◌, drop, arith, ◌∙◌, subst, sym, refl, [], ◌∷◌}
use Rattle.ap_outside.proofs.Gains.{gained_nothing, rose_within}
use Rattle.std.proofs.lemmas.Result.{err_from_is_err_and}
use Rattle.std.proofs.lemmas.List.{drop_all}
use Rattle.ap_books.specs.Bodies.{worked, certified}
use Rattle.ap_books.proofs.Showing.{SoFar, so_far_more, refused_at, part_within, ended_text, at_form}
use Rattle.ap_plain.specs.Ends.{Told}
use Rattle.ap_session.specs.Working.{Working, admits, ends}
use Rattle.ap_session.specs.Admitting.{Behind}
use Rattle.ap_session.proofs.Leading.{behind_same, behind_first, behind_more}
use Rattle.ap_session.proofs.Showing.{puts_whole, puts_cut}
use Rattle.ap_session.proofs.Unput.{less_within}
use Rattle.ap_session.proofs.book.show_events.Given.{Over}
use Rattle.ap_session.proofs.book.show_events.Goals as goal
use Rattle.ap_session.proofs.book.show_events.Goals.{After-show_event, After-show_end}

-- the text so far, with the form that a round works, and with none
with_form : (g : Over) (c : After-show_event g)
    → SoFar Working Told (g.S.Sink.content c.args.sink.now) (g.S.Sink.content c.loop-form.sink) (worked admits ends c.args.forms.now c.args.admitting.now.working)
    (worked admits ends (c.form-item.result ∷ drop (c.loop-form.form-index + 1) c.args.forms.now) c.loop-form.admitting.working)
with_form g c =
    let forms = c.args.forms.now in
    subst (λ fs. SoFar Working Told (g.S.Sink.content c.args.sink.now) (g.S.Sink.content c.loop-form.sink) (worked admits ends forms c.args.admitting.now.working) (worked admits ends fs c.loop-form.admitting.working))
    (at_form forms c.loop-form.form-index c.form-item.result (omega arith) c.form-item.is) c.loop-form.invariant.so_far

with_none : (g : Over) (c : After-show_end g)
    → SoFar Working Told (g.S.Sink.content c.args.sink.now) (g.S.Sink.content c.loop-form.sink) (worked admits ends c.args.forms.now c.args.admitting.now.working) (worked admits ends [] c.loop-form.admitting.working)
with_none g c =
    let forms = c.args.forms.now in
    subst (λ fs. SoFar Working Told (g.S.Sink.content c.args.sink.now) (g.S.Sink.content c.loop-form.sink) (worked admits ends forms c.args.admitting.now.working) (worked admits ends fs c.loop-form.admitting.working))
    (drop_all c.loop-form.form-index forms (omega arith)) c.loop-form.invariant.so_far

pub returns-in_err-show_event-clause-puts : goal.returns-in_err-show_event-clause-puts
returns-in_err-show_event-clause-puts g c =
    let content = g.S.Sink.content in
    let puts = g.S.Sink.faults in
    let all = worked admits ends c.args.forms.now c.args.admitting.now.working in
    let later = c.loop-form.invariant.later in
    let so = with_form g (goal.at.returns-in_err-show_event-clause-puts g c).After-show_event in
    let now = content c.show_event.new.sink in
    let rest = worked admits ends (drop (c.loop-form.form-index + 1) c.args.forms.now) in
    let done = c.in_err-show_event.ensures.puts in
    let more : puts c.loop-form.sink ≤ puts c.show_event.new.sink = done.later in
    let p = err_from_is_err_and c.from_residual.result c.from_residual.ensures.1 in
    puts_cut _ now (puts c.args.sink.now) (puts c.show_event.new.sink) c.from_residual.result p.0 all.text p.1 (part_within Working Told _ _ now all (admits c.loop-form.admitting.working c.form-item.result) rest so done.part)
    (λ failed. less_within Working Told _ _ now all (admits c.loop-form.admitting.working c.form-item.result) rest so (done.unput (cc (p.2, failed)))) (omega arith)
    (λ failed. rose_within _ _ _ _ later more (done.failed (cc (p.2, failed))) (omega arith))

pub returns-then-branch-clause-puts : goal.returns-then-branch-clause-puts
returns-then-branch-clause-puts g c =
    let content = g.S.Sink.content in
    let puts = g.S.Sink.faults in
    let all = worked admits ends c.args.forms.now c.args.admitting.now.working in
    let later = c.loop-form.invariant.later in
    let so = with_form g (goal.at.returns-then-branch-clause-puts g c).After-show_event in
    let now = content c.show_event.new.sink in
    let done = c.in_ok-show_event.ensures.puts in
    let more : puts c.loop-form.sink ≤ puts c.show_event.new.sink = done.later in
    puts_whole _ now (puts c.args.sink.now) (puts c.show_event.new.sink) _ all.text
    (refused_at Working Told _ _ now all (admits c.loop-form.admitting.working c.form-item.result) c.show_event.new.admitting.working (worked admits ends (drop (c.loop-form.form-index + 1) c.args.forms.now)) so done.text (c.in_ok-show_event.ensures.refused ∙ c.if-branch.true) c.in_ok-show_event.ensures.next).text
    (omega arith)

pub returns-in_err-show_end-clause-puts : goal.returns-in_err-show_end-clause-puts
returns-in_err-show_end-clause-puts g c =
    let content = g.S.Sink.content in
    let puts = g.S.Sink.faults in
    let all = worked admits ends c.args.forms.now c.args.admitting.now.working in
    let later = c.loop-form.invariant.later in
    let so = with_none g (goal.at.returns-in_err-show_end-clause-puts g c).After-show_end in
    let now = content c.show_end.new.sink in
    let done = c.in_err-show_end.ensures.puts in
    let more : puts c.loop-form.sink ≤ puts c.show_end.new.sink = done.later in
    let p = err_from_is_err_and c.from_residual-in_err-show_end.result c.from_residual-in_err-show_end.ensures.1 in
    puts_cut _ now (puts c.args.sink.now) (puts c.show_end.new.sink) c.from_residual-in_err-show_end.result p.0 all.text p.1 (part_within Working Told _ _ now all (ends c.loop-form.admitting.working) certified so done.part)
    (λ failed. less_within Working Told _ _ now all (ends c.loop-form.admitting.working) certified so (done.unput (cc (p.2, failed)))) (omega arith)
    (λ failed. rose_within _ _ _ _ later more (done.failed (cc (p.2, failed))) (omega arith))

pub returns-clause-puts : goal.returns-clause-puts
returns-clause-puts g c =
    let content = g.S.Sink.content in
    let puts = g.S.Sink.faults in
    let all = worked admits ends c.args.forms.now c.args.admitting.now.working in
    let later = c.loop-form.invariant.later in
    let so = with_none g (goal.at.returns-clause-puts g c).After-show_end in
    let now = content c.show_end.new.sink in
    let done = c.in_ok-show_end.ensures.puts in
    let more : puts c.loop-form.sink ≤ puts c.show_end.new.sink = done.later in
    puts_whole _ now (puts c.args.sink.now) (puts c.show_end.new.sink) _ all.text (ended_text Working Told _ _ now all (ends c.loop-form.admitting.working) so done.text) (omega arith)

pub loop-form-preserved : goal.loop-form-preserved
loop-form-preserved g c =
    let content = g.S.Sink.content in
    let forms = c.args.forms.now in
    let i = c.loop-form.form-index in
    let f = c.form-item.result in
    let a = c.loop-form.admitting in
    let b = c.show_event.new.admitting in
    let s = a.working in
    let all = worked admits ends forms c.args.admitting.now.working in
    let here = at_form forms i f (omega arith) c.form-item.is in
    let so = with_form g (goal.at.loop-form-preserved g c).After-show_event in
    record {
      onward = λ d more. c.loop-form.invariant.onward d
          (subst (λ fs. Behind a d (worked admits ends fs s).log) (sym here)
          (behind_more f (drop (i + 1) forms) a b d c.in_ok-show_event.ensures.behind (c.in_ok-show_event.ensures.refused ∙ c.if-branch.false) c.in_ok-show_event.ensures.next more));
      so_far = so_far_more Working Told (content c.args.sink.now) (content c.loop-form.sink) (content c.show_event.new.sink) all (admits s f) b.working (worked admits ends (drop (i + 1) forms))
          so c.in_ok-show_event.ensures.puts.text (c.in_ok-show_event.ensures.refused ∙ c.if-branch.false) c.in_ok-show_event.ensures.next;
      later = let before = c.loop-form.invariant.later in let after : g.S.Sink.faults c.loop-form.sink ≤ g.S.Sink.faults c.show_event.new.sink = c.in_ok-show_event.ensures.puts.later in omega arith;
    }

pub loop-form-init : goal.loop-form-init
loop-form-init g c = record {
  so_far = record { done = []; told = []; gained = gained_nothing (g.S.Sink.content c.args.sink.now); whole = refl };
  onward = λ b more. more;
  later = omega arith;
}

pub returns-in_err-show_event-clause-behind : goal.returns-in_err-show_event-clause-behind
returns-in_err-show_event-clause-behind g c =
    let forms = c.args.forms.now in
    let i = c.loop-form.form-index in
    let f = c.form-item.result in
    let here = at_form forms i f (omega arith) c.form-item.is in
    let a = c.loop-form.admitting in
    let b = c.show_event.new.admitting in
    c.loop-form.invariant.onward b
    (subst (λ fs. Behind a b (worked admits ends fs a.working).log) (sym here)
    (behind_first f (drop (i + 1) forms) a b c.in_err-show_event.ensures.behind))

pub returns-then-branch-clause-behind : goal.returns-then-branch-clause-behind
returns-then-branch-clause-behind g c =
    let forms = c.args.forms.now in
    let i = c.loop-form.form-index in
    let f = c.form-item.result in
    let here = at_form forms i f (omega arith) c.form-item.is in
    let a = c.loop-form.admitting in
    let b = c.show_event.new.admitting in
    c.loop-form.invariant.onward b
    (subst (λ fs. Behind a b (worked admits ends fs a.working).log) (sym here)
    (behind_first f (drop (i + 1) forms) a b c.in_ok-show_event.ensures.behind))

pub returns-in_err-show_end-clause-behind : goal.returns-in_err-show_end-clause-behind
returns-in_err-show_end-clause-behind g c =
    let a = c.loop-form.admitting in
    c.loop-form.invariant.onward a (behind_same a (worked admits ends (drop c.loop-form.form-index c.args.forms.now) a.working).log)

pub returns-clause-behind : goal.returns-clause-behind
returns-clause-behind g c =
    let a = c.loop-form.admitting in
    c.loop-form.invariant.onward a (behind_same a (worked admits ends (drop c.loop-form.form-index c.args.forms.now) a.working).log)
