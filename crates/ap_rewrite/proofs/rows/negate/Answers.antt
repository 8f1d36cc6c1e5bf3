use Rattle.std.proofs.Common.{ap}
use Rattle.ap_kernel.specs.declared.objects.Sequent.{Sequent}
use Rattle.ap_rewrite.proofs.Froms.{from_made, right_made, mode_made, equal_serves}
use Rattle.ap_rewrite.proofs.rows.negate.Goals as goal

pub not_equiv-requires-clause-stands : goal.not_equiv-requires-clause-stands
not_equiv-requires-clause-stands g c = c.requires.argument.stands

pub not_equiv-requires-clause-ctx : goal.not_equiv-requires-clause-ctx
not_equiv-requires-clause-ctx g c = c.requires.argument.ctx

pub in_mode-requires-clause-serves : goal.in_mode-requires-clause-serves
in_mode-requires-clause-serves g c = equal_serves _ _ (ap (λ (x : Sequent). x.mode) c.in_ok-equal.ensures.made)

pub returns-clause-is : goal.returns-clause-is
returns-clause-is g c = right_made _ _ _ _ _ (mode_made _ _ _ _ _ _ c.in_ok-equal.ensures.made c.in_ok-answer.ensures.made)

pub returns-clause-from : goal.returns-clause-from
returns-clause-from g c = from_made _ _ _ _ _ _ c.in_ok-answer.ensures.stands (mode_made _ _ _ _ _ _ c.in_ok-equal.ensures.made c.in_ok-answer.ensures.made)
