use Rattle.std.proofs.Common.{ap}
use Rattle.ap_world.specs.World.{Shown}
use Rattle.ap_tests_theorems.proofs.clauses.first_world.Goals as goal

pub returns : goal.returns
returns c = rw (ap (λ (w : Shown). w.entries) c.in_ok-world.ensures) c.ground_has_its_functions.ensures
