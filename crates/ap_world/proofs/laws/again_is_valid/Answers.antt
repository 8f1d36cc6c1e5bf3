use Rattle.ap_world.proofs.Again.{theorem_again, obligations_again}
use Rattle.ap_world.proofs.laws.again_is_valid.Goals as goal

pub returns-clause-theorem : goal.returns-clause-theorem
returns-clause-theorem c = theorem_again

pub returns-clause-obligations : goal.returns-clause-obligations
returns-clause-obligations c = obligations_again
