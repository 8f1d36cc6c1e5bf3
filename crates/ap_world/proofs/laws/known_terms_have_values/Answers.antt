use Rattle.ap_world.proofs.TotalMeaning.{known_valued}
use Rattle.ap_world.proofs.laws.known_terms_have_values.Goals as goal

pub returns : goal.returns
returns c = known_valued
