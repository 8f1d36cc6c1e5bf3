use Rattle.std.proofs.Common.{sym, ap, ◌∙◌}
use Rattle.ap_world.specs.Typing.{types}
use Rattle.ap_kernel.specs.declared.objects.Sequent.{Sequent}
use Rattle.ap_kernel.proofs.DerivedEquivs.{less_one}
use Rattle.ap_rewrite.proofs.arithmetic.other_order.Goals as goal

pub both_not_less-requires-clause-exact : goal.both_not_less-requires-clause-exact
both_not_less-requires-clause-exact g c = λ a b h.
    let e = less_one c.args.a.now c.args.b.now a b (sym (ap (λ (s : Sequent). s.lhs) c.requires.first.says) ∙ ap (λ (s : Sequent). s.lhs) h) in
    (c.requires.within.left_exact ∙ ap (types c.args.l.now.r.now.w.now c.args.at.now.ctx.now.0) e.0, c.requires.within.right_exact ∙ ap (types c.args.l.now.r.now.w.now c.args.at.now.ctx.now.0) e.1)
