use Rattle.std.proofs.Common.{refl}
use Rattle.ap_rules.proofs.Keeping.{on_err_by, keeps_more, keeps_same, popped}
use Rattle.ap_rules.proofs.carrying.add_rule.Goals as goal

pub returns-in_err-push_head-clause-err : goal.returns-in_err-push_head-clause-err
returns-in_err-push_head-clause-err c =
    on_err_by c.from_residual-in_err-push_head.result (λ rs k. keeps_same c.args.groups.now c.args.groups.now c.args.heads.now c.push_head.new.heads rs c.in_err-push_head.ensures.err (λ f. refl) k)

pub returns-in-Err-clause-err : goal.returns-in-Err-clause-err
returns-in-Err-clause-err c = λ rs k.
    keeps_same c.args.groups.now c.add.new.self c.args.heads.now c.pop.new.self rs
    (popped c.args.heads.now c.push_head.new.heads c.pop.new.self c.in_ok-head.head c.pop.result c.in_ok-push_head.ensures.ok c.pop.ensures)
    c.in-Err.ensures.err k

pub returns-clause-ok : goal.returns-clause-ok
returns-clause-ok c = λ rs k.
    keeps_more c.args.groups.now c.add.new.self c.args.heads.now c.push_head.new.heads c.in_ok-head.head c.args.rule rs
    c.in_ok-head.ensures c.in_ok-push_head.ensures.ok c.in_default.ensures.ok k
