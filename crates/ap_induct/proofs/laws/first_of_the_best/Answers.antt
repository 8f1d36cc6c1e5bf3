use Rattle.ap_induct.proofs.Best.{first_of_the_best, none_is_left}
use Rattle.ap_induct.proofs.laws.first_of_the_best.Goals as goal

pub returns-clause-best : goal.returns-clause-best
returns-clause-best c = first_of_the_best

pub returns-clause-none : goal.returns-clause-none
returns-clause-none c = none_is_left
