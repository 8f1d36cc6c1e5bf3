use Rattle.std.proofs.Common.{drop}
use Rattle.ap_world.specs.Holding.{KnownPairs}
use Rattle.ap_world.specs.World.{function_of}
use Rattle.ap_tests_kernel.proofs.hints.are_pairs.Given as goal

abbrev pub invariant-loop-t : goal.invariant-loop-t
invariant-loop-t l = KnownPairs (function_of l.w.entries) (drop l.t-index l.pairs) → KnownPairs (function_of l.w.entries) l.pairs
