use Rattle.std.proofs.Common.{◌≡◌, Some, rules}
use Rattle.ap_world.specs.World.{function_of}
use Rattle.ap_kernel.specs.Fertilising.{fertilise_made}
use Rattle.ap_kernel.proofs.Fertilised.{changed_stands, fertilised_follows}
use Rattle.ap_kernel.proofs.Derived.{reduces_by}
use Rattle.ap_kernel.proofs.DerivedClauses.{fertilise_derived}
use Rattle.ap_kernel.proofs.fertilising.fertilise.Goals as goal

pub fertilised-requires-clause-second : goal.fertilised-requires-clause-second
fertilised-requires-clause-second c = rw c.as_slice.ensures (changed_stands c.args.c c.args.i c.args.j c.requires.applies)

pub returns-clause-stands : goal.returns-clause-stands
returns-clause-stands c =
    let e : fertilise_made c.args.c c.args.i c.args.j ≡ Some c.in_ok-answer.answer.says = search rules in
    reduces_by c.args.w.now c.in_ok-answer.answer _ _ (search rules) (fertilise_derived c.args.w.now c.args.c c.args.i c.args.j _ c.requires.clause e)
    (fertilised_follows (function_of c.args.w.now.entries) c.recall_sound.ensures.total c.requires.ground c.args.c c.args.i c.args.j c.in_ok-answer.answer.says c.requires.clause e)
