use Rattle.std.proofs.Common.{[], sym, ap, ◌∙◌}
use Rattle.ap_translate.specs.Answers.{shaped}
use Rattle.ap_translate.specs.Parts.{symbol_in}
use Rattle.ap_translate.specs.Table.{variable, variables}
use Rattle.ap_translate.proofs.Bindings.{name_read}
use Rattle.ap_translate.proofs.Constants.{at_form}
use Rattle.ap_translate.proofs.scope.variables.Goals as goal

pub loop-form-preserved : goal.loop-form-preserved
loop-form-preserved c =
    let forms = c.args.forms.now in
    let i = c.loop-form.form-index in
    let f = c.form-item.result in
    name_read c.args.place forms i f c.loop-form.out (variables c.args.place [] forms) (at_form forms i f c.loop-form-test.true c.form-item.is) c.loop-form.invariant
    c.in_ok-symbol.symbol c.push.new.self
    (ap (λ xs. shaped c.args.place (symbol_in f) (variable f.place xs)) (sym c.as_slice.ensures) ∙ c.in_ok-symbol.ensures) c.in_ok-push.ensures.ok
