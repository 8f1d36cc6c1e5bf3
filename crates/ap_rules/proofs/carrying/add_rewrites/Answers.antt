use Rattle.std.proofs.Common.{[], ◌∷◌, ◌++◌, ap, ◌∙◌}
use Rattle.ap_rules.specs.Carried.{all_rules}
use Rattle.ap_rules.proofs.Keeping.{on_err_by, rewrites_more, popped}
use Rattle.ap_rules.proofs.carrying.add_rewrites.Goals as goal

pub returns-in_err-push-clause-err : goal.returns-in_err-push-clause-err
returns-in_err-push-clause-err c = on_err_by c.from_residual.result (λ W k. record { keeps = k.keeps; started = c.in_err-push.ensures.err ∙ k.started })

pub returns-in-Err-clause-err : goal.returns-in-Err-clause-err
returns-in-Err-clause-err c = λ W k. record {
  keeps = c.in-Err.ensures.err (all_rules W) k.keeps;
  started = popped c.args.starts.now c.push.new.self c.pop.new.self c.len-start.result c.pop.result c.in_ok-push.ensures.ok c.pop.ensures ∙ k.started;
}

pub returns-clause-ok : goal.returns-clause-ok
returns-clause-ok c = λ W y made k.
    rewrites_more W y c.args.groups.now c.add_rules.new.groups c.args.heads.now c.add_rules.new.heads c.args.starts.now c.push.new.self c.args.rules
    made (c.in_ok-push.ensures.ok ∙ ap (λ n. c.args.starts.now ++ n ∷ []) c.len-start.ensures) c.in_default.ensures.ok k
