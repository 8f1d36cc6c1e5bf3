use Rattle.std.proofs.Common.{◌+◌, drop, arith, ◌∙◌, subst, sym, refl, inr, []}
use Rattle.ap_outside.proofs.Gains.{gained_nothing}
use Rattle.std.proofs.lemmas.Result.{err_from_is_err_and}
use Rattle.std.proofs.lemmas.List.{drop_all}
use Rattle.ap_books.specs.Bodies.{worked, certified, Reached}
use Rattle.ap_books.proofs.Showing.{SoFar, so_far_more, part_within, ended_text, at_form, reached_more, reached_first, reached_ran, reached_end}
use Rattle.ap_books.proofs.body.show_events.Goals as goal

pub returns-in_err-show_form-clause-part : goal.returns-in_err-show_form-clause-part
returns-in_err-show_form-clause-part g c =
    let content = g.S.Sink.content in
    let A = g.A.Admitter in
    let forms = c.args.forms.now in
    let i = c.loop-form.form-index in
    let f = c.form-item.result in
    let s = A.state c.loop-form.admitter in
    let all = worked A.admits A.ends forms (A.state c.args.admitter.now) in
    let here = at_form forms i f (omega arith) c.form-item.is in
    let so = subst (λ fs. SoFar A.State A.Log (content c.args.sink.now) (content c.loop-form.sink) all (worked A.admits A.ends fs s)) here c.loop-form.invariant.so_far in
    let p = err_from_is_err_and c.from_residual.result c.from_residual.ensures.1 in
    rw p.1 (part_within A.State A.Log (content c.args.sink.now) (content c.loop-form.sink) (content c.show_form.new.sink) all (A.admits s f) (worked A.admits A.ends (drop (i + 1) forms)) so c.in_err-show_form.ensures.part)

pub loop-form-preserved : goal.loop-form-preserved
loop-form-preserved g c =
    let content = g.S.Sink.content in
    let A = g.A.Admitter in
    let forms = c.args.forms.now in
    let i = c.loop-form.form-index in
    let f = c.form-item.result in
    let s = A.state c.loop-form.admitter in
    let all = worked A.admits A.ends forms (A.state c.args.admitter.now) in
    let here = at_form forms i f (omega arith) c.form-item.is in
    let so = subst (λ fs. SoFar A.State A.Log (content c.args.sink.now) (content c.loop-form.sink) all (worked A.admits A.ends fs s)) here c.loop-form.invariant.so_far in
    record {
      onward = λ b more. c.loop-form.invariant.onward b
          (subst (λ fs. Reached A.state A.admits A.ends A.links A.rests fs c.loop-form.admitter b) (sym here)
          (reached_more g.row.A.Denot A.State A.Log A.state A.admits A.ends A.links A.rests f (drop (i + 1) forms) c.loop-form.admitter b c.show_form.new.admitter c.in_ok-show_form.ensures.links c.in_ok-show_form.ensures.next (c.in_ok-show_form.ensures.refused ∙ c.if-branch.false) more));
      so_far = so_far_more A.State A.Log (content c.args.sink.now) (content c.loop-form.sink) (content c.show_form.new.sink) all (A.admits s f) (A.state c.show_form.new.admitter) (worked A.admits A.ends (drop (i + 1) forms))
          so c.in_ok-show_form.ensures.text (c.in_ok-show_form.ensures.refused ∙ c.if-branch.false) c.in_ok-show_form.ensures.next;
      later = let before = c.loop-form.invariant.later in let after = c.show_form.ensures.later in omega arith;
    }

pub returns-in_err-show_end-clause-part : goal.returns-in_err-show_end-clause-part
returns-in_err-show_end-clause-part g c =
    let content = g.S.Sink.content in
    let A = g.A.Admitter in
    let forms = c.args.forms.now in
    let i = c.loop-form.form-index in
    let s = A.state c.loop-form.admitter in
    let all = worked A.admits A.ends forms (A.state c.args.admitter.now) in
    let none = drop_all i forms (omega arith) in
    let so = subst (λ fs. SoFar A.State A.Log (content c.args.sink.now) (content c.loop-form.sink) all (worked A.admits A.ends fs s)) none c.loop-form.invariant.so_far in
    let p = err_from_is_err_and c.from_residual-in_err-show_end.result c.from_residual-in_err-show_end.ensures.1 in
    rw p.1 (part_within A.State A.Log (content c.args.sink.now) (content c.loop-form.sink) (content c.show_end.new.sink) all (A.ends s) certified so c.in_err-show_end.ensures.part)

pub returns-clause-text : goal.returns-clause-text
returns-clause-text g c =
    let content = g.S.Sink.content in
    let A = g.A.Admitter in
    let forms = c.args.forms.now in
    let i = c.loop-form.form-index in
    let s = A.state c.loop-form.admitter in
    let all = worked A.admits A.ends forms (A.state c.args.admitter.now) in
    let none = drop_all i forms (omega arith) in
    let so = subst (λ fs. SoFar A.State A.Log (content c.args.sink.now) (content c.loop-form.sink) all (worked A.admits A.ends fs s)) none c.loop-form.invariant.so_far in
    ended_text A.State A.Log (content c.args.sink.now) (content c.loop-form.sink) (content c.show_end.new.sink) all (A.ends s) so c.in_ok-show_end.ensures.text

pub loop-form-init : goal.loop-form-init
loop-form-init g c = record {
  so_far = record { done = []; told = []; gained = gained_nothing (g.S.Sink.content c.args.sink.now); whole = refl };
  onward = λ b more. more;
  later = omega arith;
}

pub returns-in_err-show_form-clause-reached : goal.returns-in_err-show_form-clause-reached
returns-in_err-show_form-clause-reached g c =
    let A = g.A.Admitter in
    let forms = c.args.forms.now in
    let i = c.loop-form.form-index in
    let f = c.form-item.result in
    let here = at_form forms i f (omega arith) c.form-item.is in
    let a = c.loop-form.admitter in
    let b = c.show_form.new.admitter in
    c.loop-form.invariant.onward b
    (subst (λ fs. Reached A.state A.admits A.ends A.links A.rests fs a b) (sym here)
    (reached_ran g.row.A.Denot A.State A.Log A.state A.admits A.ends A.links A.rests f (drop (i + 1) forms) a b c.in_err-show_form.ensures.ran))

pub returns-then-branch-clause-reached : goal.returns-then-branch-clause-reached
returns-then-branch-clause-reached g c =
    let A = g.A.Admitter in
    let forms = c.args.forms.now in
    let i = c.loop-form.form-index in
    let f = c.form-item.result in
    let here = at_form forms i f (omega arith) c.form-item.is in
    let a = c.loop-form.admitter in
    let b = c.show_form.new.admitter in
    c.loop-form.invariant.onward b
    (subst (λ fs. Reached A.state A.admits A.ends A.links A.rests fs a b) (sym here)
    (reached_first g.row.A.Denot A.State A.Log A.state A.admits A.ends A.links A.rests f (drop (i + 1) forms) a b c.in_ok-show_form.ensures.links c.in_ok-show_form.ensures.next))

pub returns-in_err-show_end-clause-reached : goal.returns-in_err-show_end-clause-reached
returns-in_err-show_end-clause-reached g c =
    let A = g.A.Admitter in
    let none = drop_all c.loop-form.form-index c.args.forms.now (omega arith) in
    let a = c.loop-form.admitter in
    let b = c.show_end.new.admitter in
    c.loop-form.invariant.onward b
    (subst (λ fs. Reached A.state A.admits A.ends A.links A.rests fs a b) (sym none)
    (reached_end g.row.A.Denot A.State A.Log A.state A.admits A.ends A.links A.rests a b c.in_err-show_end.ensures.rests c.in_err-show_end.ensures.ran))

pub returns-clause-reached : goal.returns-clause-reached
returns-clause-reached g c =
    let A = g.A.Admitter in
    let none = drop_all c.loop-form.form-index c.args.forms.now (omega arith) in
    let a = c.loop-form.admitter in
    let b = c.show_end.new.admitter in
    c.loop-form.invariant.onward b
    (subst (λ fs. Reached A.state A.admits A.ends A.links A.rests fs a b) (sym none)
    (reached_end g.row.A.Denot A.State A.Log A.state A.admits A.ends A.links A.rests a b c.in_ok-show_end.ensures.rests (inr c.in_ok-show_end.ensures.next)))
