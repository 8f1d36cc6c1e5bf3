use Rattle.std.proofs.Common.{Some, ap, ◌∙◌, rules}
use Rattle.ap_world.specs.World.{function_of}
use Rattle.ap_kernel.proofs.OpeningStands.{fold_stands}
use Rattle.ap_kernel.proofs.Derived.{stands_by}
use Rattle.ap_kernel.proofs.DerivedEquivs.{fold_derived}
use Rattle.ap_kernel.proofs.opening.fold.Goals as goal

pub returns-clause-stands : goal.returns-clause-stands
returns-clause-stands c =
    stands_by c.args.w.now c.in_ok-answer.answer _ _ (search rules) (c.in_ok-answer.ensures.why ∙ ap Some c.in_ok-why.ensures)
    (fold_derived c.args.w.now c.args.ctx.now c.args.call.now c.args.value c.requires.facts c.requires.term c.requires.constants c.requires.run)
    (fold_stands (function_of c.args.w.now.entries) c.recall_sound.ensures.total c.args.ctx.now c.args.call.now c.args.value c.requires.facts c.requires.term c.requires.constants c.requires.value)
