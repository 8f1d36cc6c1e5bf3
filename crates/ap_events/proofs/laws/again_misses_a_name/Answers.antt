use Rattle.ap_events.proofs.Sounding.{again_misses_name}
use Rattle.ap_events.proofs.laws.again_misses_a_name.Goals as goal

pub returns : goal.returns
returns c = again_misses_name
