use Rattle.ap_weaken.proofs.Smallest.{smallest_is_chosen, none_may_be}
use Rattle.ap_weaken.proofs.laws.smallest_is_chosen.Goals as goal

pub returns-clause-smallest : goal.returns-clause-smallest
returns-clause-smallest c = smallest_is_chosen

pub returns-clause-none : goal.returns-clause-none
returns-clause-none c = none_may_be
