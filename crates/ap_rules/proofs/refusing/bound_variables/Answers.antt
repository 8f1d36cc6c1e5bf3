use Rattle.std.proofs.Common.{◌≡◌, ◌≤◌, length, IfOk, ap, subst, arith}
use Rattle.ap_rules.proofs.Made.{bound_is}
use Rattle.ap_rules.proofs.refusing.bound_variables.Goals as goal

pub returns : goal.returns
returns c =
    let hyps = c.args.rule.now.hyps in
    let end : length hyps ≤ c.loop-hyp.hyp-index = omega (arith, ap length c.as_slice-hyp-items.ensures) in
    subst (λ zs. IfOk c.vars.result (λ xs. xs ≡ zs))
    (bound_is c.named.result c.args.rule.now.lhs c.in_ok-all.all hyps c.loop-hyp.terms c.loop-hyp.hyp-index end c.loop-hyp.invariant c.in_ok-all.ensures)
    c.vars.ensures
