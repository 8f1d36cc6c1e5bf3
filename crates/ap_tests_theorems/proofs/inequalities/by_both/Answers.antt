use Rattle.std.proofs.Common.{◌≡◌, sym, ap, ◌∙◌, rules}
use Rattle.ap_world.specs.Typing.{types}
use Rattle.ap_kernel.specs.declared.objects.Sequent.{Sequent}
use Rattle.ap_kernel.specs.Linear.{not_less_made}
use Rattle.ap_kernel.proofs.DerivedEquivs.{less_one}
use Rattle.ap_tests_theorems.proofs.inequalities.by_both.Goals as goal

pub both_not_less-requires-clause-exact : goal.both_not_less-requires-clause-exact
both_not_less-requires-clause-exact g c = λ a b h.
    let says : c.expect-less.result.says ≡ not_less_made c.args.ctx.now c.args.a.now c.args.b.now = search rules in
    let e = less_one c.args.a.now c.args.b.now a b (sym (ap (λ (s : Sequent). s.lhs) says) ∙ ap (λ (s : Sequent). s.lhs) h) in
    (c.requires.left_exact ∙ ap (types c.args.w.now c.args.ctx.now.0) e.0, c.requires.right_exact ∙ ap (types c.args.w.now c.args.ctx.now.0) e.1)
