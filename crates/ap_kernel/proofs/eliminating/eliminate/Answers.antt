use Rattle.std.proofs.Common.{rules}
use Rattle.ap_world.specs.World.{function_of}
use Rattle.ap_kernel.proofs.Eliminated.{eliminated_follows}
use Rattle.ap_kernel.proofs.Derived.{reduces_by}
use Rattle.ap_kernel.proofs.DerivedClauses.{eliminate_derived}
use Rattle.ap_kernel.proofs.eliminating.eliminate.Goals as goal

pub returns-clause-stands : goal.returns-clause-stands
returns-clause-stands c =
    reduces_by c.args.w.now c.made.result _ _ (search rules)
    (eliminate_derived c.args.w.now c.args.c c.args.v.now c.args.a c.args.b c.requires.clause c.requires.first c.requires.second c.requires.apart)
    (eliminated_follows (function_of c.args.w.now.entries) c.recall_sound.ensures.total c.requires.ground c.args.c c.args.v.now c.args.a c.args.b
    c.requires.clause c.requires.first c.requires.second c.requires.apart)
