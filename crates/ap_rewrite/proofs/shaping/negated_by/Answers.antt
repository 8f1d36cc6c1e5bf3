use Rattle.std.proofs.Common.{sym, ap, ◌∙◌}
use Rattle.ap_world.specs.Clauses.{not_of}
use Rattle.ap_rewrite.specs.Leading.{leads_made, plain_in}
use Rattle.ap_rewrite.specs.Rewriting.{truth_of, negated}
use Rattle.ap_rewrite.proofs.Negated.{quote_here, not_here, negated_constant, negated_not, negated_other}
use Rattle.ap_rewrite.proofs.shaping.negated_by.Goals as goal

pub not_constant-requires-clause-negation : goal.not_constant-requires-clause-negation
not_constant-requires-clause-negation g c = c.requires.negation ∙ ap not_of (quote_here c.args.a.now c.in-Constant.v.now c.in-Constant.ensures)

pub not_not-requires-clause-negation : goal.not_not-requires-clause-negation
not_not-requires-clause-negation g c = c.requires.negation ∙ ap not_of (not_here c.args.a.now c.in-Not.z.now c.in-Not.ensures)

pub returns-in_ok-constant-in-Constant-clause-made : goal.returns-in_ok-constant-in-Constant-clause-made
returns-in_ok-constant-in-Constant-clause-made g c =
    let S = plain_in c.args.w.now c.args.w.now.theory in
    c.in_ok-constant-in-Constant.ensures.made ∙ ap (leads_made c.args.ctx.now c.args.mode c.args.t.now)
    (sym (negated_constant S c.args.mode c.args.ctx.now.0 c.in-Constant.v.now)
    ∙ ap (λ a. negated S c.args.mode c.args.ctx.now.0 a (truth_of a)) (sym (quote_here c.args.a.now c.in-Constant.v.now c.in-Constant.ensures)))

pub returns-in_ok-twice-in-Not-clause-made : goal.returns-in_ok-twice-in-Not-clause-made
returns-in_ok-twice-in-Not-clause-made g c =
    let S = plain_in c.args.w.now c.args.w.now.theory in
    c.in_ok-twice-in-Not.ensures.made ∙ ap (leads_made c.args.ctx.now c.args.mode c.args.t.now)
    (sym (negated_not S c.args.mode c.args.ctx.now.0 c.in-Not.z.now)
    ∙ ap (λ a. negated S c.args.mode c.args.ctx.now.0 a (truth_of a)) (sym (not_here c.args.a.now c.in-Not.z.now c.in-Not.ensures)))

pub returns-in_ok-same-in_default-clause-made : goal.returns-in_ok-same-in_default-clause-made
returns-in_ok-same-in_default-clause-made g c =
    c.in_ok-same-in_default.ensures.made ∙ ap (leads_made c.args.ctx.now c.args.mode c.args.t.now)
    (c.requires.negation ∙ sym (negated_other (plain_in c.args.w.now c.args.w.now.theory) c.args.mode c.args.ctx.now.0 c.args.a.now c.shape_of.result c.shape_of.ensures c.in_default.not-Constant c.in_default.not-Not))
