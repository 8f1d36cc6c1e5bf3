use Rattle.ap_world.proofs.Fuel.{ev-more}
use Rattle.ap_world.proofs.laws.more_fuel.Goals as goal

pub returns : goal.returns
returns c = ev-more
