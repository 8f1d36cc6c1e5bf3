use Rattle.ap_poly.proofs.BoundsHold.{bounds_hold}
use Rattle.ap_poly.proofs.laws.bounds_hold.Goals as goal

pub returns : goal.returns
returns c = record { law = bounds_hold }
