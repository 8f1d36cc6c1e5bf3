use Rattle.std.proofs.Common.{◌≡◌, ◌++◌, drop}
use Rattle.ap_kernel.specs.Hinting.{negated_cases}
use Rattle.ap_kernel.proofs.hints.negated_cases.Given as goal

-- the clauses so far, and those of the terms that are left
abbrev pub invariant-loop-u : goal.invariant-loop-u
invariant-loop-u l = l.out ++ negated_cases (drop l.u-index l.on) l.literals ≡ negated_cases l.on l.literals
