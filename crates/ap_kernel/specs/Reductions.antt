-- When a reduction stands in a world, and what each row on a clause answers.
use Rattle.std.specs.Prelude.{◌≡◌, Some}
use Rattle.ap_world.specs.World.{Shown, function_of}
use Rattle.ap_kernel.specs.declared.reductions.Reduction.{Reduction}
use Rattle.ap_kernel.specs.Deriving.{reduction, said_of}
pub use Rattle.ap_kernel.specs.Inferences.{KnownClause, Follows, put_at, others, all_false, to_one, dropped, rewritten, claims, all_from, all_to, chained}

-- what it says follows there, and is what the rows of its derivation give there
pub record Reduces (w : Shown) (r : Reduction) : Type 0 where
  pub says : Follows (function_of w.entries) r.says
  pub derived : said_of w r.why ≡ Some (reduction r.says)
