use Rattle.ap_term.specs.Terms.{term_size}
use Rattle.ap_terminate.proofs.cases.+is_unnested.Given as goal

abbrev pub decreases-is_unnested : goal.decreases-is_unnested
decreases-is_unnested l = term_size l.t.now
