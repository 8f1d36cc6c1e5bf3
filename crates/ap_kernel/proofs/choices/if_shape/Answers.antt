use Rattle.std.proofs.Common.{Some, ap, ◌∙◌, rules}
use Rattle.ap_world.specs.World.{function_of}
use Rattle.ap_kernel.proofs.ChoicesStand.{choice_stands}
use Rattle.ap_kernel.proofs.Derived.{stands_by}
use Rattle.ap_kernel.proofs.DerivedEquivs.{shape_derived}
use Rattle.ap_kernel.proofs.choices.if_shape.Goals as goal

pub returns-clause-stands : goal.returns-clause-stands
returns-clause-stands c =
    stands_by c.args.w.now c.in_ok-answer.answer _ _ (search rules) (c.in_ok-answer.ensures.why ∙ ap Some c.in_ok-why.ensures)
    (shape_derived c.args.w.now c.args.ctx.now c.args.mode c.args.t.now c.args.mask c.requires.facts c.requires.term c.requires.choice c.requires.exact)
    (choice_stands (function_of c.args.w.now.entries) c.recall_sound.ensures.total c.requires.ground c.args.ctx.now c.args.mode c.args.t.now c.args.mask
    c.requires.facts c.requires.term c.requires.choice c.requires.mask)
