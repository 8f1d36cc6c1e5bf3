use Rattle.ap_poly.proofs.LiteralsHold.{literals_hold}
use Rattle.ap_poly.proofs.laws.literals_hold.Goals as goal

pub returns : goal.returns
returns c = record { law = λ D total u s k e h. literals_hold D total e u s k h }
