use Rattle.ap_names.proofs.Equal.{name_decided}
use Rattle.ap_names.proofs.name.is_name.Goals as goal

pub returns : goal.returns
returns c = name_decided c.same_name.result c.args.a.now c.args.b.now c.same_name.ensures
