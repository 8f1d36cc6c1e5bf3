use Rattle.std.proofs.Common.{◌≡◌, true, sym, ap, ◌∙◌, subst, rules}
use Rattle.ap_world.specs.declared.entry.Mask.{Mask}
use Rattle.ap_world.specs.Meaning.{HasValue}
use Rattle.ap_world.specs.Sound.{known}
use Rattle.ap_world.specs.Typing.{types}
use Rattle.ap_world.specs.World.{function_of}
use Rattle.ap_tests_kernel.proofs.kernel.shape.Goals as goal

pub mask-requires-clause-term : goal.mask-requires-clause-term
mask-requires-clause-term c =
    let k : known (function_of c.args.w.now.entries) c.args.t.now ≡ true = search rules in
    c.bare_test.ensures.known (function_of c.args.w.now.entries) k

pub if_shape-requires-clause-mask : goal.if_shape-requires-clause-mask
if_shape-requires-clause-mask c = λ e h v has.
    c.in_ok-mask.ensures.holds e h v (subst (λ u. HasValue (function_of c.args.w.now.entries) u e v) (sym c.bare_test.ensures.is) has)

pub if_shape-requires-clause-exact : goal.if_shape-requires-clause-exact
if_shape-requires-clause-exact c = ap (λ (m : Mask). m.0) c.in_ok-mask.ensures.made ∙ ap (types c.args.w.now c.in_ok-ctx.ctx.0) c.bare_test.ensures.is
