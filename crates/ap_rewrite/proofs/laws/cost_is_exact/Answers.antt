use Rattle.ap_rewrite.proofs.Exact.{exact}
use Rattle.ap_rewrite.proofs.CheapStands.{hit_exact}
use Rattle.ap_rewrite.proofs.laws.cost_is_exact.Goals as goal

pub returns-clause-any : goal.returns-clause-any
returns-clause-any c g h n a m e j = exact g a h n m e j

pub returns-clause-rewriting : goal.returns-clause-rewriting
returns-clause-rewriting c = hit_exact
