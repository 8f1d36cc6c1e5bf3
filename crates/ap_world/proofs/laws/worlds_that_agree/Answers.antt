use Rattle.ap_world.proofs.Agreeing.{agreed}
use Rattle.ap_world.proofs.laws.worlds_that_agree.Goals as goal

pub returns : goal.returns
returns c = agreed
