use Rattle.std.proofs.Common.{Some, ap, ◌∙◌, rules}
use Rattle.ap_world.specs.World.{function_of}
use Rattle.ap_kernel.proofs.CallsStand.{chosen_stands}
use Rattle.ap_kernel.proofs.Derived.{stands_by}
use Rattle.ap_kernel.proofs.DerivedEquivs.{chosen_derived}
use Rattle.ap_kernel.proofs.calls.choose_branch.Goals as goal

pub returns-clause-stands : goal.returns-clause-stands
returns-clause-stands c =
    stands_by c.args.w.now c.made.result _ _ (search rules) (c.made.ensures.why ∙ ap Some (search rules))
    (chosen_derived c.args.w.now c.args.mode c.args.test c.args.sign c.args.b.now c.args.c.now c.requires.test.derived c.requires.constant c.requires.yes c.requires.no)
    (chosen_stands (function_of c.args.w.now.entries) c.recall_sound.ensures.total c.requires.ground c.args.mode c.args.test.says c.args.sign c.args.b.now c.args.c.now
    c.requires.test.says c.requires.constant c.requires.yes c.requires.no)
