use Rattle.std.proofs.Common.{◌≡◌, ◌++◌, drop, map}
use Rattle.ap_world.specs.Recursion.{falling_obligations}
use Rattle.ap_terminate.specs.Distinct.{clause_of}
use Rattle.ap_terminate.proofs.owed.push_all_falls.Given as goal

-- what is there so far, and the clauses of the cases that are left
abbrev pub invariant-loop-case : goal.invariant-loop-case
invariant-loop-case l = l.out ++ map clause_of (falling_obligations l.formals l.m (drop l.case-index l.cases)) ≡ l.initial.out ++ map clause_of (falling_obligations l.formals l.m l.cases)
