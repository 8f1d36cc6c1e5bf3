use Rattle.ap_admit.proofs.Soundness.{sound_admit, obligations_suffice}
use Rattle.ap_admit.proofs.laws.admission_is_sound.Goals as goal

pub returns-clause-law : goal.returns-clause-law
returns-clause-law c = sound_admit

pub returns-clause-obligations : goal.returns-clause-obligations
returns-clause-obligations c = obligations_suffice
