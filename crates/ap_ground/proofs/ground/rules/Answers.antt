use Rattle.std.proofs.Common.{◌≡◌}
use Rattle.ap_world.specs.Ground.{ground_rules}
use Rattle.ap_ground.proofs.There.{rules_open}
use Rattle.ap_ground.proofs.ground.rules.Goals as goal

pub returns : goal.returns
unfolding rules_open
returns c = c.rules.ensures
