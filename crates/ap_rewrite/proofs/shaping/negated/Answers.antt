use Rattle.std.proofs.Common.{◌≡◌, sym, ◌∙◌, subst}
use Rattle.ap_rewrite.specs.Leading.{leads_made, plain_in}
use Rattle.ap_rewrite.specs.Rewriting.{truth_of, negated}
use Rattle.ap_rewrite.proofs.Negated.{not_same}
use Rattle.ap_rewrite.proofs.shaping.negated.Goals as goal

pub returns-clause-made : goal.returns-clause-made
returns-clause-made g c = λ a r.
    let S = plain_in c.args.w.now c.args.w.now.theory in
    subst (λ x. c.in_ok-q.q.says ≡ leads_made c.args.ctx.now c.args.mode c.args.t.now (negated S c.args.mode c.args.ctx.now.0 x (truth_of x)))
    (not_same c.argument_of-argument.result.now a (sym c.argument_of-argument.ensures ∙ r)) c.in_ok-q.ensures.made
