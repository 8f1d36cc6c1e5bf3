use Rattle.ap_weaken.proofs.Firsts.{first_use_is_taken, fertilize_applies}
use Rattle.ap_weaken.proofs.laws.fertilize_applies.Goals as goal

pub returns-clause-first : goal.returns-clause-first
returns-clause-first c = first_use_is_taken

pub returns-clause-applies : goal.returns-clause-applies
returns-clause-applies c = fertilize_applies
