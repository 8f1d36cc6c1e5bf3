use Rattle.ap_world.specs.World.{function_of}
use Rattle.ap_world.specs.Facts.{KnownFacts}
use Rattle.ap_tests_theorems.proofs.theorems.facts.Given as goal

-- the terms so far are known
abbrev pub invariant-loop-form : goal.invariant-loop-form
invariant-loop-form g l = KnownFacts (function_of l.w.entries) l.out
