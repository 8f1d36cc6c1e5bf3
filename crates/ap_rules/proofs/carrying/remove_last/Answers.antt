use Rattle.ap_rules.proofs.Keeping.{keeps_last}
use Rattle.ap_rules.proofs.carrying.remove_last.Goals as goal

pub returns-in-Some-clause-keeps : goal.returns-in-Some-clause-keeps
returns-in-Some-clause-keeps c = λ rs k. keeps_last c.args.groups.now c.remove_first.new.self c.args.heads.now c.pop.new.self c.in-Some.head rs c.in-Some.ensures c.remove_first.ensures k
