use Rattle.std.proofs.Common.{Some, ap, ◌∙◌}
use Rattle.ap_world.specs.World.{function_of}
use Rattle.ap_kernel.specs.declared.objects.Sequent.{Sequent}
use Rattle.ap_kernel.specs.Linear.{equal_made}
use Rattle.ap_kernel.proofs.Derived.{stands_by}
use Rattle.ap_kernel.proofs.DerivedEquivs.{not_less_derived}
use Rattle.ap_kernel.proofs.LinearStands.{neither_stands}
use Rattle.ap_kernel.proofs.linear.both_not_less.Goals as goal

pub equal_equiv-requires : goal.equal_equiv-requires
equal_equiv-requires c =
    let k = c.requires.sides in
    (k.left, k.right, c.left_of.ensures ∙ ap (λ (s : Sequent). s.lhs) k.less)

pub returns-clause-stands : goal.returns-clause-stands
returns-clause-stands c =
    let k = c.requires.sides in
    let masks = c.requires.exact k.left k.right k.less in
    stands_by c.args.w.now c.in_ok-answer.answer (equal_made c.args.ctx.now k.left k.right) _
    (c.in_ok-answer.ensures.says k.left k.right (c.left_of.ensures ∙ ap (λ (s : Sequent). s.lhs) k.less)) (c.in_ok-answer.ensures.why ∙ ap Some c.in_ok-why.ensures)
    (not_less_derived c.args.w.now c.args.ctx.now c.args.less c.args.more c.args.left c.args.right k c.requires.less c.requires.more masks.0 masks.1 c.requires.left c.requires.right)
    (neither_stands (function_of c.args.w.now.entries) c.recall_sound.ensures.total c.args.ctx.now c.args.less.says c.args.more.says c.args.left c.args.right
    c.requires.less.says c.requires.more.says k c.requires.left c.requires.right)

pub returns-clause-made : goal.returns-clause-made
returns-clause-made c = λ a b h. c.in_ok-answer.ensures.says a b (c.left_of.ensures ∙ ap (λ (s : Sequent). s.lhs) h)
