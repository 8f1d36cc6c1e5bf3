use Rattle.ap_world.proofs.RulesStand.{parts_hold, rules_hold}
use Rattle.ap_world.proofs.laws.rules_hold.Goals as goal

pub returns-clause-parts : goal.returns-clause-parts
returns-clause-parts c = parts_hold

pub returns-clause-rules : goal.returns-clause-rules
returns-clause-rules c = rules_hold
