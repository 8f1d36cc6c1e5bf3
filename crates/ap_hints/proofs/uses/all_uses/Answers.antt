use Rattle.ap_hints.specs.Answers.{each}
use Rattle.ap_hints.specs.Hinted.{use_in}
use Rattle.ap_hints.proofs.Refusals.{after_none, after_next, after_fails, after_all, gives_err}
use Rattle.ap_hints.proofs.uses.all_uses.Goals as goal

pub loop-form-init : goal.loop-form-init
loop-form-init c = rw c.new-uses.ensures (after_none (each (use_in c.args.w.now.entries) c.args.forms.now))

pub loop-form-preserved : goal.loop-form-preserved
loop-form-preserved c =
    after_next (use_in c.args.w.now.entries) c.loop-form.uses c.push.new.self c.args.forms.now c.loop-form.form-index c.form-item.result c.in_ok-use_in.field-0 _
    c.loop-form-test.true c.form-item.is c.in_ok-use_in.ensures c.in_ok-push.ensures.ok c.loop-form.invariant

pub returns-in_err-use_in : goal.returns-in_err-use_in
returns-in_err-use_in c =
    gives_err c.from_residual.result c.in_err-use_in.field-0.0 _ c.from_residual.ensures.1
    (after_fails (use_in c.args.w.now.entries) c.loop-form.uses c.args.forms.now c.loop-form.form-index c.form-item.result _ c.in_err-use_in.field-0.0
    c.loop-form-test.true c.form-item.is c.loop-form.invariant c.in_err-use_in.ensures)

pub returns : goal.returns
returns c =
    after_all (use_in c.args.w.now.entries) c.loop-form.uses c.args.forms.now c.loop-form.form-index _ c.loop-form-test.false c.loop-form.invariant
