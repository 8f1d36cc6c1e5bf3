use Rattle.std.proofs.Common.{sym}
use Rattle.ap_rules.proofs.Keeping.{rewrites_less, rewrites_all}
use Rattle.ap_rules.proofs.carrying.cut_rewrites.Goals as goal

pub returns-in-Some : goal.returns-in-Some
returns-in-Some c = λ W k.
    rewrites_less W c.args.count c.in-Some.start.now c.args.groups.now c.cut.new.groups c.args.heads.now c.cut.new.heads c.args.starts.now c.truncate.new.self
    (sym c.in-Some.ensures.value) c.truncate.ensures c.cut.ensures k

pub returns-in_default : goal.returns-in_default
returns-in_default c = λ W k.
    rewrites_all W c.args.count c.args.groups.now c.args.heads.now c.args.starts.now (sym c.in_default.ensures.value) k
