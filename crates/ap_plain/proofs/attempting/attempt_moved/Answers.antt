use Rattle.ap_plain.proofs.Attempted.{where_proved}
use Rattle.ap_plain.proofs.attempting.attempt_moved.Goals as goal

pub returns-clause-valid : goal.returns-clause-valid
returns-clause-valid g c =
    where_proved c.attempt_as.result _ _
    (λ good. good c.requires.functions c.recall_sound.ensures.sound c.recall_sound.ensures.distinct c.requires.known c.requires.hints tt)
    c.attempt_as.ensures.good
