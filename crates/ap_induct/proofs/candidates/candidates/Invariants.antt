use Rattle.std.proofs.Common.{◌≡◌, ◌++◌, drop}
use Rattle.ap_world.specs.World.{function_of}
use Rattle.ap_induct.specs.Choosing.{candidates}
use Rattle.ap_induct.proofs.candidates.candidates.Given as goal

-- the candidates so far, and those of what is left
abbrev pub invariant-loop-t : goal.invariant-loop-t
invariant-loop-t l = l.out ++ candidates (function_of l.w.entries) l.theory l.literals (drop l.t-index l.calls) ≡ candidates (function_of l.w.entries) l.theory l.literals l.calls
