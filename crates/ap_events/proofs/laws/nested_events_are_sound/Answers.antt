use Rattle.ap_events.proofs.Sounding.{worked_keep_good, again_keeps_good}
use Rattle.ap_events.proofs.laws.nested_events_are_sound.Goals as goal

pub returns-clause-first : goal.returns-clause-first
returns-clause-first c = worked_keep_good

pub returns-clause-again : goal.returns-clause-again
returns-clause-again c = again_keeps_good
