use Rattle.std.proofs.Common.{◌≡◌, Some, rules}
use Rattle.ap_world.specs.World.{function_of}
use Rattle.ap_kernel.specs.Solving.{solved_made}
use Rattle.ap_kernel.proofs.Solved.{solved_reduces}
use Rattle.ap_kernel.proofs.Derived.{reduces_by}
use Rattle.ap_kernel.proofs.DerivedClauses.{solve_derived}
use Rattle.ap_kernel.proofs.solving.use_equality.Goals as goal

pub returns-clause-stands : goal.returns-clause-stands
returns-clause-stands c =
    let e : solved_made c.args.c c.args.index ≡ Some c.in_ok-answer.answer.says = search rules in
    reduces_by c.args.w.now c.in_ok-answer.answer _ _ (search rules) (solve_derived c.args.w.now c.args.c c.args.index _ c.requires.clause e)
    (solved_reduces (function_of c.args.w.now.entries) c.recall_sound.ensures.total c.requires.ground c.args.c c.args.index c.in_ok-answer.answer.says c.requires.clause e)
