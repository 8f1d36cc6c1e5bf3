use Rattle.ap_ground.proofs.Good.{ground_sound}
use Rattle.ap_ground.proofs.laws.ground_is_sound.Goals as goal

pub returns : goal.returns
returns c = ground_sound
