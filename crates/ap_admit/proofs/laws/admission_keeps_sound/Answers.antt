use Rattle.ap_admit.proofs.Masked.{admission_keeps_sound, stubs_know}
use Rattle.ap_admit.proofs.Definitions.{admitted_is_sound}
use Rattle.ap_admit.proofs.laws.admission_keeps_sound.Goals as goal

pub returns-clause-law : goal.returns-clause-law
returns-clause-law c = admission_keeps_sound

pub returns-clause-stubs : goal.returns-clause-stubs
returns-clause-stubs c = stubs_know

pub returns-clause-definition : goal.returns-clause-definition
returns-clause-definition c = admitted_is_sound
