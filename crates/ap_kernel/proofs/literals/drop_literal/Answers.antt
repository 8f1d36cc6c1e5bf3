use Rattle.std.proofs.Common.{rules}
use Rattle.ap_world.specs.World.{function_of}
use Rattle.ap_kernel.proofs.Reduced.{dropped_reduces}
use Rattle.ap_kernel.proofs.Derived.{reduces_by}
use Rattle.ap_kernel.proofs.DerivedClauses.{drop_derived}
use Rattle.ap_kernel.proofs.literals.drop_literal.Goals as goal

pub returns-clause-stands : goal.returns-clause-stands
returns-clause-stands c =
    reduces_by c.args.w.now c.in_ok-answer.answer _ _ (search rules) (drop_derived c.args.w.now c.args.c c.args.index c.requires.clause c.requires.place)
    (dropped_reduces (function_of c.args.w.now.entries) c.recall_sound.ensures.total c.args.c c.args.index c.requires.clause)
