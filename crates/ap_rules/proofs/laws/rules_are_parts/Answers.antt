use Rattle.ap_rules.proofs.Parts.{rules_are_parts}
use Rattle.ap_rules.proofs.laws.rules_are_parts.Goals as goal

pub returns : goal.returns
returns c = rules_are_parts
