use Rattle.std.proofs.Common.{sym}
use Rattle.ap_rules.proofs.Keeping.{linear_less, linear_kept}
use Rattle.ap_rules.proofs.carrying.cut_linear.Goals as goal

pub returns-in-Some : goal.returns-in-Some
returns-in-Some c = λ W k.
    linear_less W c.args.count c.in-Some.start.now c.args.linear.now c.truncate.new.self c.args.starts.now c.truncate-in-Some.new.self
    (sym c.in-Some.ensures.value) c.truncate-in-Some.ensures c.truncate.ensures k

pub returns-in_default : goal.returns-in_default
returns-in_default c = λ W k.
    linear_kept W c.args.count c.args.linear.now c.args.starts.now (sym c.in_default.ensures.value) k
