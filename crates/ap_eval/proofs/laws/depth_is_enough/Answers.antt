use Rattle.ap_eval.proofs.Depth.{depth_enough}
use Rattle.ap_eval.proofs.laws.depth_is_enough.Goals as goal

pub returns : goal.returns
returns c = depth_enough
