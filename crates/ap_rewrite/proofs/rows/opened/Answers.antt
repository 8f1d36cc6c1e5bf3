use Rattle.std.proofs.Common.{ap, sym, ◌∙◌, Some}
use Rattle.ap_kernel.specs.declared.objects.Sequent.{Sequent}
use Rattle.ap_rewrite.proofs.Froms.{from_made, right_made, mode_made, equal_serves, if_some}
use Rattle.ap_rewrite.proofs.rows.opened.Goals as goal

pub in_mode-requires-clause-serves : goal.in_mode-requires-clause-serves
in_mode-requires-clause-serves g c =
    let h = if_some _ _ c.requires.defined c.in_ok-equal.ensures.made in
    equal_serves _ _ (ap (λ (x : Sequent). x.mode) h.2)

pub returns-clause-is : goal.returns-clause-is
returns-clause-is g c =
    let h = if_some _ _ c.requires.defined c.in_ok-equal.ensures.made in
    ap Some (right_made _ _ _ _ _ (mode_made _ _ _ _ _ _ h.2 c.in_ok-q.ensures.made)) ∙ sym h.1

pub returns-clause-from : goal.returns-clause-from
returns-clause-from g c =
    let h = if_some _ _ c.requires.defined c.in_ok-equal.ensures.made in
    from_made _ _ _ _ _ _ c.in_ok-q.ensures.stands (mode_made _ _ _ _ _ _ h.2 c.in_ok-q.ensures.made)
