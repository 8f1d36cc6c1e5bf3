use Rattle.ap_world.proofs.Starting.{starting_sound}
use Rattle.ap_world.proofs.laws.starting_world_is_sound.Goals as goal

pub returns : goal.returns
returns c = starting_sound
