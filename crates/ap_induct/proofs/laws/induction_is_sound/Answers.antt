use Rattle.ap_kernel.proofs.Inducting.{sound_induct, known_induct}
use Rattle.ap_kernel.proofs.InductFollows.{induction_follows}
use Rattle.ap_induct.proofs.laws.induction_is_sound.Goals as goal

pub returns-clause-sound : goal.returns-clause-sound
returns-clause-sound c = sound_induct

pub returns-clause-known : goal.returns-clause-known
returns-clause-known c = known_induct

pub returns-clause-row : goal.returns-clause-row
returns-clause-row c = induction_follows
