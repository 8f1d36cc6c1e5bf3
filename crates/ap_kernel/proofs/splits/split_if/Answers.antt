use Rattle.std.proofs.Common.{◌≡◌, Some, None, rules}
use Rattle.ap_world.specs.World.{function_of}
use Rattle.ap_kernel.specs.Splits.{split_made}
use Rattle.ap_kernel.proofs.Derived.{reduces_by}
use Rattle.ap_kernel.proofs.DerivedClauses.{split_derived}
use Rattle.ap_kernel.proofs.Splitting.{can_split, split_reduces}
use Rattle.ap_kernel.proofs.splits.split_if.Goals as goal

pub unreachable-requires : goal.unreachable-requires
unreachable-requires c =
    let none : split_made c.args.c c.args.index c.args.at.now ≡ None = search rules in
    can_split c.args.c c.args.index c.args.at.now c.requires.choice none

pub returns-clause-stands : goal.returns-clause-stands
returns-clause-stands c =
    let e : split_made c.args.c c.args.index c.args.at.now ≡ Some c.made.result.says = search rules in
    reduces_by c.args.w.now c.made.result _ _ (search rules) (split_derived c.args.w.now c.args.c c.args.index c.args.at.now _ c.requires.clause e)
    (split_reduces (function_of c.args.w.now.entries) c.recall_sound.ensures.total c.requires.ground c.args.c c.args.index c.args.at.now c.made.result.says c.requires.clause e)
