use Rattle.ap_elim.proofs.Named.{names_are_found, new_is_new}
use Rattle.ap_elim.proofs.laws.names_are_new.Goals as goal

pub returns-clause-found : goal.returns-clause-found
returns-clause-found c = names_are_found

pub returns-clause-new : goal.returns-clause-new
returns-clause-new c = new_is_new
