use Rattle.std.proofs.Common.{◌≡◌, ◌++◌, drop, map}
use Rattle.ap_world.specs.Recursion.{natural_obligations}
use Rattle.ap_terminate.specs.Distinct.{clause_of}
use Rattle.ap_terminate.proofs.owed.push_natural.Given as goal

-- what is there so far, and the clauses of the components that are left
abbrev pub invariant-loop-component : goal.invariant-loop-component
invariant-loop-component l = l.out ++ map clause_of (natural_obligations (drop l.component-index l.m)) ≡ l.initial.out ++ map clause_of (natural_obligations l.m)
