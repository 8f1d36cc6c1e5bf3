use Rattle.ap_linear.proofs.Struck.{hopeless_found}
use Rattle.ap_linear.proofs.laws.hopeless_is_none.Goals as goal

pub returns : goal.returns
returns c = hopeless_found
