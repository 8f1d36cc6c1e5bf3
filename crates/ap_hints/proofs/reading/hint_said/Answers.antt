use Rattle.ap_hints.proofs.Refusals.{gives_err}
use Rattle.ap_hints.proofs.Saying.{hint_fails, hint_made}
use Rattle.ap_hints.proofs.reading.hint_said.Goals as goal

pub returns-in_err-said : goal.returns-in_err-said
returns-in_err-said c =
    gives_err c.from_residual.result c.in_err-said.field-0.0 _ c.from_residual.ensures.1
    (hint_fails c.args.w.now c.args.hints c.args.forms.now c.args.goal c.is_root-at_goal.result c.in_err-said.field-0.0 c.is_root-at_goal.ensures c.in_err-said.ensures)

pub returns : goal.returns
returns c =
    hint_made c.args.w.now c.args.hints c.args.forms.now c.args.goal c.is_root-at_goal.result c.in_ok-said.said c.in_ok-hints.hints
    c.is_root-at_goal.ensures c.in_ok-said.ensures c.in_ok-hints.ensures
