use Rattle.std.proofs.Common.{◌≡◌}
use Rattle.ap_ground.proofs.There.{functions_open}
use Rattle.ap_ground.proofs.ground.comparisons.Goals as goal

pub returns : goal.returns
unfolding functions_open
returns c = c.functions.ensures
