use Rattle.ap_term.specs.Terms.{term_size}
use Rattle.ap_terminate.proofs.cases.+push_cases.Given as goal

abbrev pub decreases-push_cases : goal.decreases-push_cases
decreases-push_cases l = term_size l.t.now
