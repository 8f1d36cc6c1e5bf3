use Rattle.ap_elim.proofs.Taken.{elim_applies}
use Rattle.ap_elim.proofs.laws.elim_applies.Goals as goal

pub returns : goal.returns
returns c = record { applies = elim_applies }
