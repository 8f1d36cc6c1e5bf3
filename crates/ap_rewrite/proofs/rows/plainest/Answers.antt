use Rattle.ap_rewrite.proofs.Froms.{from_made, right_made}
use Rattle.ap_rewrite.proofs.rows.plainest.Goals as goal

pub returns-clause-is : goal.returns-clause-is
returns-clause-is g c = λ x e. right_made _ _ _ _ _ (c.in_ok-q.ensures.made x e)

pub returns-clause-from : goal.returns-clause-from
returns-clause-from g c =
    let h = c.requires.negation in
    from_made _ _ _ _ _ _ c.in_ok-q.ensures.stands (c.in_ok-q.ensures.made h.0 h.1)
