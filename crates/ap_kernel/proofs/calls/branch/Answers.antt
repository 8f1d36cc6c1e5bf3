use Rattle.std.proofs.Common.{rules}
use Rattle.ap_world.specs.World.{function_of}
use Rattle.ap_kernel.proofs.CallsStand.{branch_stands}
use Rattle.ap_kernel.proofs.DerivedEquivs.{branch_given}
use Rattle.ap_kernel.proofs.calls.branch.Goals as goal

pub returns-clause-stands : goal.returns-clause-stands
returns-clause-stands c =
    branch_given c.args.w.now c.args.mode c.args.test c.args.yes c.args.no c.made.result c.requires.test c.requires.yes c.requires.no
    (c.requires.yes_mode, c.requires.yes_facts) (c.requires.no_mode, c.requires.no_facts) (search rules) (search rules)
    (branch_stands (function_of c.args.w.now.entries) c.recall_sound.ensures.total c.requires.ground c.args.mode c.args.test.says c.args.yes.says c.args.no.says
    c.requires.test.says c.requires.yes.says c.requires.no.says c.requires.yes_mode c.requires.no_mode c.requires.yes_facts c.requires.no_facts)
