use Rattle.std.proofs.Common.{Some, ap, ◌∙◌, rules}
use Rattle.ap_world.specs.World.{function_of}
use Rattle.ap_kernel.proofs.NegationsStand.{double_not_stands}
use Rattle.ap_kernel.proofs.Derived.{stands_by}
use Rattle.ap_kernel.proofs.DerivedEquivs.{double_derived}
use Rattle.ap_kernel.proofs.negations.double_not.Goals as goal

pub returns-clause-stands : goal.returns-clause-stands
returns-clause-stands c =
    stands_by c.args.w.now c.made.result _ _ (search rules) (c.made.ensures.why ∙ ap Some c.in_ok-why.ensures)
    (double_derived c.args.w.now c.args.ctx.now c.args.mode c.args.t.now c.args.mask c.requires.facts c.requires.term c.requires.exact c.requires.truth)
    (double_not_stands (function_of c.args.w.now.entries) c.recall_sound.ensures.total c.requires.ground c.args.ctx.now c.args.mode c.args.t.now c.args.mask
    c.requires.facts c.requires.term c.requires.mask c.requires.truth)
