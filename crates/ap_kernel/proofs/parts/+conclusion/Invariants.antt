use Rattle.ap_term.specs.Terms.{term_size}
use Rattle.ap_kernel.proofs.parts.+conclusion.Given as goal

abbrev pub decreases-conclusion : goal.decreases-conclusion
decreases-conclusion l = term_size l.t.now
