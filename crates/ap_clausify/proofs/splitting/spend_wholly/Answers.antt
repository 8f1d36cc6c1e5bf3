use Rattle.std.proofs.Common.{◌+◌, ◌-◌, ◌/◌, ◌≤◌, arith, rules}
use Rattle.std.proofs.lemmas.Bool.{OnTrue_from}
use Rattle.ap_clausify.proofs.VanishingGoes.{some_capped, spent}
use Rattle.ap_clausify.proofs.splitting.spend_wholly.Goals as goal

pub overflow_sub-others : goal.overflow_sub-others
overflow_sub-others c = some_capped c.args.c.now (c.args.steps.now.left / 2 + 2) c.clause_leaves-others.result (omega arith) c.clause_leaves-others.ensures

pub overflow_mul-steps : goal.overflow_mul-steps
overflow_mul-steps c =
    let few : c.clause_leaves-others.result - 1 ≤ c.args.steps.now.left / 2 = search rules in
    let fits : c.args.steps.now.left ≤ 4294967295 = search rules in
    omega arith

pub returns-then-enough-clause-spent : goal.returns-then-enough-clause-spent
returns-then-enough-clause-spent c =
    let few : c.clause_leaves-others.result - 1 ≤ c.args.steps.now.left / 2 = search rules in
    let fits : c.args.steps.now.left ≤ 4294967295 = search rules in
    OnTrue_from _ _ (λ q. spent c.args.c.now c.clause_leaves-others.result c.args.steps.now.left c.clause_leaves-others.ensures few)
