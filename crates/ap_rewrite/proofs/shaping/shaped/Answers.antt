use Rattle.std.proofs.Common.{◌≡◌, true, sym, ap, ◌∙◌, subst}
use Rattle.ap_term.specs.declared.term.Term.{Term}
use Rattle.ap_world.specs.declared.entry.Mask.{Mask}
use Rattle.ap_world.specs.Typing.{types}
use Rattle.ap_world.specs.World.{function_of}
use Rattle.ap_world.specs.Shapes.{shape_of}
use Rattle.ap_kernel.specs.Choices.{is_choice}
use Rattle.ap_kernel.specs.Masks.{MaskHolds}
use Rattle.ap_rewrite.specs.Leading.{leads_made, plain_in}
use Rattle.ap_rewrite.proofs.Negated.{choice_here, shaped_by}
use Rattle.ap_rewrite.proofs.shaping.shaped.Goals as goal

pub mask-requires-clause-term : goal.mask-requires-clause-term
mask-requires-clause-term g c = c.bare_test.ensures.known (function_of c.args.w.now.entries) c.requires.term

pub if_shape-requires-clause-choice : goal.if_shape-requires-clause-choice
if_shape-requires-clause-choice g c =
    let k = c.requires.choice in
    subst (λ u. is_choice (shape_of u) ≡ true) (sym k.3) (choice_here k.0 k.1 k.2)

pub if_shape-requires-clause-mask : goal.if_shape-requires-clause-mask
if_shape-requires-clause-mask g c =
    subst (λ u. MaskHolds (function_of c.args.w.now.entries) c.args.ctx.now.0 u c.in_ok-mask.mask) c.bare_test.ensures.is c.in_ok-mask.ensures.holds

pub if_shape-requires-clause-exact : goal.if_shape-requires-clause-exact
if_shape-requires-clause-exact g c = ap (λ (m : Mask). m.0) c.in_ok-mask.ensures.made ∙ ap (types c.args.w.now c.args.ctx.now.0) c.bare_test.ensures.is

pub returns-clause-made : goal.returns-clause-made
returns-clause-made g c = λ x y z r.
    let k = c.requires.choice in
    let S = plain_in c.args.w.now c.args.w.now.theory in
    c.in_ok-q.ensures.made ∙ ap (leads_made c.args.ctx.now c.args.mode c.args.t.now)
    (shaped_by S c.args.mode c.args.ctx.now.0 c.in_ok-mask.mask c.args.t.now k.0 k.1 k.2 x y z
    (c.in_ok-mask.ensures.made ∙ ap (λ (u : Term). record { 0 = S.types c.args.ctx.now.0 u }) c.bare_test.ensures.is) k.3 k.4 r)
