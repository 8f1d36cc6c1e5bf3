use Rattle.ap_tests_theorems.proofs.Handed.{begun}
use Rattle.ap_tests_theorems.proofs.given.first_world.Goals as goal

pub returns : goal.returns
returns g c = begun c.ground_world.result c.expect.result c.ground_world.ensures c.expect.ensures c.ground_has_its_functions.ensures
