use Rattle.std.proofs.Common.{◌≡◌, ◌++◌, drop, map}
use Rattle.ap_world.specs.Recursion.{decrease}
use Rattle.ap_terminate.specs.Distinct.{clause_of}
use Rattle.ap_terminate.proofs.owed.push_falls.Given as goal

-- what is there so far, and the clauses of the calls that are left
abbrev pub invariant-loop-call : goal.invariant-loop-call
invariant-loop-call l = l.out ++ map clause_of (map (decrease l.formals l.m l.case) (drop l.call-index l.calls)) ≡ l.initial.out ++ map clause_of (map (decrease l.formals l.m l.case) l.calls)
