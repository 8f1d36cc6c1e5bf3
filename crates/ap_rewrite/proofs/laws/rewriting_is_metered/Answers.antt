use Rattle.ap_rewrite.proofs.RewritingCosts.{metered, literals_metered}
use Rattle.ap_rewrite.proofs.laws.rewriting_is_metered.Goals as goal

pub returns-clause-terms : goal.returns-clause-terms
returns-clause-terms c = metered

pub returns-clause-literals : goal.returns-clause-literals
returns-clause-literals c = literals_metered
