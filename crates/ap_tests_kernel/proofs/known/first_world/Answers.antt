use Rattle.std.proofs.Common.{ap}
use Rattle.ap_world.specs.World.{Shown, function_of}
use Rattle.ap_world.specs.Ground.{ground}
use Rattle.ap_strategy.specs.Laws.{kernel_ground}
use Rattle.ap_tests_kernel.proofs.known.first_world.Goals as goal

pub returns : goal.returns
returns c = rw (ap (λ (w : Shown). w.entries) c.in_ok-world.ensures) (kernel_ground (function_of ground) c.ground_has_its_functions.ensures)
