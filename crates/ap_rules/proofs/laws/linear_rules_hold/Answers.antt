use Rattle.ap_rules.proofs.LinearStands.{linear_rules_hold}
use Rattle.ap_rules.proofs.laws.linear_rules_hold.Goals as goal

pub returns : goal.returns
returns c = linear_rules_hold
