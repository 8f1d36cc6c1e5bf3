use Rattle.std.proofs.Common.{rules}
use Rattle.ap_world.specs.World.{function_of}
use Rattle.ap_kernel.proofs.Derived.{reduces_by}
use Rattle.ap_kernel.proofs.DerivedClauses.{then_derived}
use Rattle.ap_kernel.proofs.Reduced.{then_reduces}
use Rattle.ap_kernel.proofs.chaining.then.Goals as goal

pub returns-clause-stands : goal.returns-clause-stands
returns-clause-stands c =
    reduces_by c.args.w.now c.made.result _ _ (search rules) (then_derived c.args.w.now c.args.first c.args.next c.requires.first c.requires.next c.requires.one)
    (then_reduces (function_of c.args.w.now.entries) c.args.first.says c.args.next.says c.requires.first.says c.requires.next.says c.requires.one)
