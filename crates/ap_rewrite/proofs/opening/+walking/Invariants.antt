use Rattle.std.proofs.Common.{◌+◌, ◌*◌}
use Rattle.ap_term.specs.Terms.{term_size}
use Rattle.ap_rewrite.proofs.opening.+walking.Given as goal

abbrev pub decreases-walk : goal.decreases-walk
decreases-walk g l = 3 * term_size l.sofar.says.rhs + 2

abbrev pub decreases-walk_body : goal.decreases-walk_body
decreases-walk_body g l = 3 * term_size l.sofar.says.rhs + 1

abbrev pub decreases-walk_on : goal.decreases-walk_on
decreases-walk_on g l = 3 * (term_size l.b.now + term_size l.c.now) + 3
