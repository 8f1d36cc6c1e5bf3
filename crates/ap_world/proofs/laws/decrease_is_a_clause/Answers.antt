use Rattle.ap_world.proofs.Conjectures.{decrease_flat}
use Rattle.ap_world.proofs.laws.decrease_is_a_clause.Goals as goal

pub returns : goal.returns
returns c = decrease_flat
