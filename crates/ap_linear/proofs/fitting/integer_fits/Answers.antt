use Rattle.ap_linear.proofs.Rising.{integer_fits}
use Rattle.ap_linear.proofs.fitting.integer_fits.Goals as goal

pub returns : goal.returns
returns c = integer_fits c.args.n c.ranges.n
