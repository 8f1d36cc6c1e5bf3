use Rattle.ap_term.specs.Terms.{term_size}
use Rattle.ap_kernel.proofs.parts.+conjunct.Given as goal

abbrev pub decreases-conjunct : goal.decreases-conjunct
decreases-conjunct l = term_size l.t.now
