use Rattle.ap_rewrite.proofs.Froms.{from_made, right_made}
use Rattle.ap_rewrite.proofs.rows.stay.Goals as goal

pub returns-clause-is : goal.returns-clause-is
returns-clause-is g c = right_made _ _ _ _ _ c.in_ok-q.ensures.made

pub returns-clause-from : goal.returns-clause-from
returns-clause-from g c = from_made _ _ _ _ _ _ c.in_ok-q.ensures.stands c.in_ok-q.ensures.made
