use Rattle.ap_types.proofs.GroundKept.{ground_kept}
use Rattle.ap_types.proofs.laws.ground_masks_are_kept.Goals as goal

pub returns : goal.returns
returns c = ground_kept
