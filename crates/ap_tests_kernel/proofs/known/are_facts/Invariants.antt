use Rattle.std.proofs.Common.{drop}
use Rattle.ap_world.specs.World.{function_of}
use Rattle.ap_world.specs.Facts.{KnownFacts}
use Rattle.ap_tests_kernel.proofs.known.are_facts.Given as goal

abbrev pub invariant-loop-t : goal.invariant-loop-t
invariant-loop-t l = KnownFacts (function_of l.w.entries) (drop l.t-index l.facts) → KnownFacts (function_of l.w.entries) l.facts
