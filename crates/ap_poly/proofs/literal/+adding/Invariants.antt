use Rattle.std.proofs.Common.{◌+◌, ◌*◌, map}
use Rattle.ap_list.specs.Lists.{sum_of}
use Rattle.ap_term.specs.Terms.{term_size}
use Rattle.ap_poly.proofs.literal.+adding.Given as goal

-- a term's size falls
abbrev pub decreases-add_term : goal.decreases-add_term
decreases-add_term l = 4 * term_size l.t.now

abbrev pub decreases-add_call : goal.decreases-add_call
decreases-add_call l = 4 * sum_of (map term_size l.ts.now) + 3

abbrev pub decreases-add_product : goal.decreases-add_product
decreases-add_product l = 4 * (term_size l.a.now + term_size l.b.now) + 2
