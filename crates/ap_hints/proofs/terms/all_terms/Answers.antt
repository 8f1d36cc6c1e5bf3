use Rattle.ap_hints.specs.Answers.{each}
use Rattle.ap_hints.specs.Hinted.{term_in}
use Rattle.ap_hints.proofs.Refusals.{after_none, after_next, after_fails, after_all, gives_err}
use Rattle.ap_hints.proofs.terms.all_terms.Goals as goal

pub loop-form-init : goal.loop-form-init
loop-form-init c = rw c.new-terms.ensures (after_none (each (term_in c.args.w.now.entries) c.args.forms.now))

pub loop-form-preserved : goal.loop-form-preserved
loop-form-preserved c =
    after_next (term_in c.args.w.now.entries) c.loop-form.terms c.push.new.self c.args.forms.now c.loop-form.form-index c.form-item.result c.in_ok-term.field-0 _
    c.loop-form-test.true c.form-item.is c.in_ok-term.ensures c.in_ok-push.ensures.ok c.loop-form.invariant

pub returns-in_err-term : goal.returns-in_err-term
returns-in_err-term c =
    gives_err c.from_residual.result c.in_err-term.field-0.0 _ c.from_residual.ensures.1
    (after_fails (term_in c.args.w.now.entries) c.loop-form.terms c.args.forms.now c.loop-form.form-index c.form-item.result _ c.in_err-term.field-0.0
    c.loop-form-test.true c.form-item.is c.loop-form.invariant c.in_err-term.ensures)

pub returns : goal.returns
returns c =
    after_all (term_in c.args.w.now.entries) c.loop-form.terms c.args.forms.now c.loop-form.form-index _ c.loop-form-test.false c.loop-form.invariant
