use Rattle.ap_term.specs.Terms.{term_size}
use Rattle.ap_kernel.proofs.parts.+push_hypotheses.Given as goal

abbrev pub decreases-push_hypotheses : goal.decreases-push_hypotheses
decreases-push_hypotheses l = term_size l.t.now
