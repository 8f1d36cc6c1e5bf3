use Rattle.std.proofs.Common.{◌≡◌, true, false, sym, ap, ◌∙◌, subst}
use Rattle.ap_world.specs.declared.entry.Mask.{Mask}
use Rattle.ap_world.specs.World.{function_of}
use Rattle.ap_world.specs.Clauses.{not_of}
use Rattle.ap_world.specs.Sound.{known}
use Rattle.ap_rewrite.specs.Leading.{leads_made, plain_in}
use Rattle.ap_rewrite.proofs.Negated.{known_under, unwrapped_says}
use Rattle.ap_rewrite.proofs.shaping.not_not.Goals as goal

pub mask-requires-clause-term : goal.mask-requires-clause-term
mask-requires-clause-term g c =
    let D = function_of c.args.w.now.entries in
    known_under D c.args.z.now (known_under D (not_of c.args.z.now) (subst (λ u. known D u ≡ true) c.requires.negation c.requires.term))

pub double_not-requires-clause-term : goal.double_not-requires-clause-term
double_not-requires-clause-term g c =
    let D = function_of c.args.w.now.entries in
    known_under D c.args.z.now (known_under D (not_of c.args.z.now) (subst (λ u. known D u ≡ true) c.requires.negation c.requires.term))

pub double_not-requires-clause-truth : goal.double_not-requires-clause-truth
double_not-requires-clause-truth g c = sym c.is_truth-counts.ensures ∙ c.if-counts.true

pub returns-then-counts-clause-made : goal.returns-then-counts-clause-made
returns-then-counts-clause-made g c =
    c.in_ok-q.ensures.made ∙ ap (λ u. leads_made c.args.ctx.now c.args.mode u c.args.z.now) (sym c.requires.negation)
    ∙ ap (leads_made c.args.ctx.now c.args.mode c.args.t.now)
    (unwrapped_says (plain_in c.args.w.now c.args.w.now.theory) c.args.mode c.args.ctx.now.0 c.in_ok-mask.mask c.args.z.now true c.in_ok-mask.ensures.made (sym c.is_truth-counts.ensures ∙ c.if-counts.true))

pub returns-clause-made : goal.returns-clause-made
returns-clause-made g c =
    c.in_ok-same.ensures.made ∙ ap (leads_made c.args.ctx.now c.args.mode c.args.t.now)
    (c.requires.negation ∙ unwrapped_says (plain_in c.args.w.now c.args.w.now.theory) c.args.mode c.args.ctx.now.0 c.in_ok-mask.mask c.args.z.now false c.in_ok-mask.ensures.made (sym c.is_truth-counts.ensures ∙ c.if-counts.false))

pub double_not-requires-clause-exact : goal.double_not-requires-clause-exact
double_not-requires-clause-exact g c = ap (λ (m : Mask). m.0) c.in_ok-mask.ensures.made
