use Rattle.std.proofs.Common.{nat_lt, ap}
use Rattle.ap_world.specs.Units.{most_nodes}
use Rattle.ap_eval.proofs.spending.is_large.Goals as goal

pub returns-in-Some : goal.returns-in-Some
unfolding most_nodes
returns-in-Some c = ap (nat_lt 4096) c.in-Some.ensures.fits
