use Rattle.ap_world.proofs.Given.{names_hold}
use Rattle.ap_world.proofs.laws.names_are_no_primitives.Goals as goal

pub returns : goal.returns
returns c = names_hold
