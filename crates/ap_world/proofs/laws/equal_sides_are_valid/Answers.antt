use Rattle.ap_world.proofs.Agreeing.{equal_valid}
use Rattle.ap_world.proofs.laws.equal_sides_are_valid.Goals as goal

pub returns : goal.returns
returns c = equal_valid
