-- A reduction to no clause.
use Rattle.std.specs.Prelude.{◌≡◌, []}
use Rattle.ap_world.specs.World.{Shown}
use Rattle.ap_kernel.specs.declared.reductions.Reduction.{Reduction}
use Rattle.ap_kernel.specs.Reductions.{Reduces}

-- it stands in the world, and leads to no clause: so the one that it is from is valid there
pub record Closes (w : Shown) (r : Reduction) : Type 0 where
  pub stands : Reduces w r
  pub none : r.says.to ≡ []
