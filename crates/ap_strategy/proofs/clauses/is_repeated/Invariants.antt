use Rattle.std.proofs.Common.{◌≡◌, drop}
use Rattle.ap_strategy.specs.Steps.{is_repeated}
use Rattle.ap_strategy.proofs.clauses.is_repeated.Given as goal

-- it may still stand among those that are left
abbrev pub invariant-loop-other : goal.invariant-loop-other
invariant-loop-other l = is_repeated (drop l.other-index l.clauses) l.c ≡ is_repeated l.clauses l.c
