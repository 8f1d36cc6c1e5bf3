use Rattle.ap_events.proofs.Sounding.{again_is_covered}
use Rattle.ap_events.proofs.laws.again_is_covered.Goals as goal

pub returns : goal.returns
returns c = again_is_covered
