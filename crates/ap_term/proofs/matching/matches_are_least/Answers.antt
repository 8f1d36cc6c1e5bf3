use Rattle.ap_term.proofs.Matches.{matches_least, matches_found}
use Rattle.ap_term.proofs.matching.matches_are_least.Goals as goal

pub returns-clause-least : goal.returns-clause-least
returns-clause-least c = matches_least

pub returns-clause-found : goal.returns-clause-found
returns-clause-found c = matches_found
