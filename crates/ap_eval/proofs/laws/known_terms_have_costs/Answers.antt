use Rattle.ap_eval.proofs.Costs.{known_costs}
use Rattle.ap_eval.proofs.laws.known_terms_have_costs.Goals as goal

pub returns : goal.returns
returns c = known_costs
