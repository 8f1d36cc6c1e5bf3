use Rattle.std.proofs.Common.{rules}
use Rattle.ap_world.specs.World.{function_of}
use Rattle.ap_kernel.proofs.Hinted.{cased_follows}
use Rattle.ap_kernel.proofs.Derived.{reduces_by}
use Rattle.ap_kernel.proofs.DerivedClauses.{cases_derived}
use Rattle.ap_kernel.proofs.hints.cases.Goals as goal

pub returns-clause-stands : goal.returns-clause-stands
returns-clause-stands c =
    reduces_by c.args.w.now c.made.result _ _ (search rules) (cases_derived c.args.w.now c.args.c c.args.on.now c.requires.clause c.requires.terms)
    (cased_follows (function_of c.args.w.now.entries) c.recall_sound.ensures.total c.requires.ground c.args.c c.args.on.now c.requires.clause c.requires.terms)
