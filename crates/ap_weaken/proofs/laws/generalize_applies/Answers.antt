use Rattle.ap_weaken.proofs.Chosen.{generalize_applies}
use Rattle.ap_weaken.proofs.laws.generalize_applies.Goals as goal

pub returns : goal.returns
returns c = record { applies = generalize_applies }
