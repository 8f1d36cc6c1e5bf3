use Rattle.ap_term.specs.Terms.{term_size}
use Rattle.ap_kernel.proofs.assuming.+assuming.Given as goal

abbrev pub decreases-push_assumed : goal.decreases-push_assumed
decreases-push_assumed l = term_size l.t.now
