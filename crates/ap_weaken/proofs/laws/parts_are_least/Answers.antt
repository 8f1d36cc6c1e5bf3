use Rattle.ap_weaken.proofs.Chains.{parts_are_closed, parts_are_least}
use Rattle.ap_weaken.proofs.laws.parts_are_least.Goals as goal

pub returns-clause-closed : goal.returns-clause-closed
returns-clause-closed c = parts_are_closed

pub returns-clause-least : goal.returns-clause-least
returns-clause-least c = parts_are_least
