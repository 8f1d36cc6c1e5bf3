use Rattle.ap_world.proofs.Conjectures.{conjuncts_if, flat_implies, cases_if}
use Rattle.ap_world.proofs.laws.equations_of_terms.Goals as goal

pub returns-clause-conjuncts : goal.returns-clause-conjuncts
returns-clause-conjuncts c = conjuncts_if

pub returns-clause-clauses : goal.returns-clause-clauses
returns-clause-clauses c = flat_implies

pub returns-clause-cases : goal.returns-clause-cases
returns-clause-cases c = cases_if
