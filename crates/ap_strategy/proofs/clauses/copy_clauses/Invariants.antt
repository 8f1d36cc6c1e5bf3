use Rattle.std.proofs.Common.{◌≡◌, take}
use Rattle.ap_strategy.proofs.clauses.copy_clauses.Given as goal

-- the clauses so far are copied
abbrev pub invariant-loop-c : goal.invariant-loop-c
invariant-loop-c l = l.out ≡ take l.c-index l.clauses
