use Rattle.std.proofs.Common.{◌≡◌}
use Rattle.ap_ground.specs.Tabled as tabled
use Rattle.ap_ground.proofs.Made.{if_is, written, written_is}
use Rattle.ap_ground.proofs.There.{functions_open}
use Rattle.ap_ground.proofs.ground.lists.Goals as goal

pub returns : goal.returns
unfolding functions_open
returns c = if_is c.functions.result written tabled.lists c.functions.ensures written_is
