use Rattle.std.proofs.Common.{◌≡◌, ◌+◌, ◌++◌, drop}
use Rattle.ap_stated.specs.Definitions.{numbered}
use Rattle.ap_stated.proofs.definition.numbered.Given as goal

-- those that are made, and those of the clauses that are left
abbrev pub invariant-loop-i : goal.invariant-loop-i
invariant-loop-i l = l.owed ++ numbered (l.i + 1) (drop l.i l.clauses) ≡ numbered 1 l.clauses
