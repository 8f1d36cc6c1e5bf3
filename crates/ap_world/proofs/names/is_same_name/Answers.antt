use Rattle.ap_world.proofs.Places.{test_is}
use Rattle.ap_world.proofs.names.is_same_name.Goals as goal

pub returns : goal.returns
returns c = test_is c.args.a.now c.args.b.now c.same_symbol.result c.same_symbol.ensures.same
