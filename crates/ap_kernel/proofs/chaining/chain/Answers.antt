use Rattle.std.proofs.Common.{rules}
use Rattle.ap_world.specs.World.{function_of}
use Rattle.ap_kernel.specs.Reductions.{claims}
use Rattle.ap_kernel.proofs.Derived.{reduces_by}
use Rattle.ap_kernel.proofs.DerivedClauses.{chain_derived}
use Rattle.ap_kernel.proofs.Reduced.{chained_reduces, all_follow}
use Rattle.ap_kernel.proofs.chaining.chain.Goals as goal

pub returns-clause-stands : goal.returns-clause-stands
returns-clause-stands c =
    reduces_by c.args.w.now c.made.result _ _ (search rules) (chain_derived c.args.w.now c.args.a c.args.b c.requires.first c.requires.rest c.requires.goals)
    (chained_reduces (function_of c.args.w.now.entries) c.args.a.says (claims c.args.b) c.requires.first.says
    (all_follow c.args.w.now c.args.b c.requires.rest) c.requires.goals)
