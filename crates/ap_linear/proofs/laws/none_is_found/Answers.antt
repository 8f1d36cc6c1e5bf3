use Rattle.ap_linear.proofs.Lone.{none_negative_none}
use Rattle.ap_linear.proofs.Struck.{none_found}
use Rattle.ap_linear.proofs.laws.none_is_found.Goals as goal

pub returns-clause-negative : goal.returns-clause-negative
returns-clause-negative c = none_negative_none

pub returns-clause-found : goal.returns-clause-found
returns-clause-found c = none_found
