use Rattle.std.proofs.Common.{◌≡◌, ◌+◌, ◌≤◌, drop}
use Rattle.ap_induct.specs.Choosing.{clause_count}
use Rattle.ap_induct.proofs.counting.are_few.Given as goal

-- what is counted, and what is left
abbrev pub invariant-loop-case : goal.invariant-loop-case
invariant-loop-case l = (l.count + clause_count l.literals (drop l.case-index l.cases) ≡ clause_count l.literals l.cases) × (l.count ≤ 1024)
