use Rattle.ap_rewrite.proofs.Froms.{right_found, each_found}
use Rattle.ap_rewrite.proofs.rows.ran.Goals as goal

pub returns-clause-is : goal.returns-clause-is
returns-clause-is g c = right_found _ _ _ _ _ (c.in_ok-found.ensures.made _ _ c.requires.call)

pub returns-clause-from : goal.returns-clause-from
returns-clause-from g c = each_found _ _ _ _ _ _ c.in_ok-found.ensures.stands (c.in_ok-found.ensures.made _ _ c.requires.call)
