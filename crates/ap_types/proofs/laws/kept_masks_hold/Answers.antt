use Rattle.ap_types.proofs.KeptHolds.{kept_holds}
use Rattle.ap_types.proofs.laws.kept_masks_hold.Goals as goal

pub returns : goal.returns
returns c = kept_holds
