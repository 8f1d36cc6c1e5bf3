use Rattle.ap_rewrite.proofs.CheapStands.{steps_bound, cheap_exact}
use Rattle.ap_rewrite.proofs.laws.steps_bound_limits.Goals as goal

pub returns-clause-same : goal.returns-clause-same
returns-clause-same c = steps_bound

pub returns-clause-hit : goal.returns-clause-hit
returns-clause-hit c = cheap_exact
