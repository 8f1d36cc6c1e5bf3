use Rattle.ap_events.proofs.Counting.{singles_are_held, plain_is_one}
use Rattle.ap_events.proofs.laws.singles_are_held.Goals as goal

pub returns-clause-held : goal.returns-clause-held
returns-clause-held c = singles_are_held

pub returns-clause-plain : goal.returns-clause-plain
returns-clause-plain c = plain_is_one
