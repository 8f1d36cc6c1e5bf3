use Rattle.std.proofs.Common.{◌≡◌, ◌++◌, drop}
use Rattle.ap_rules.specs.Linear.{linear_from}
use Rattle.ap_rules.proofs.linear.linear_from.Given as goal

-- the rules so far, and those of the conjuncts that are left
abbrev pub invariant-loop-place : goal.invariant-loop-place
invariant-loop-place l = l.out ++ linear_from l.name l.hyps l.place (drop l.place l.parts) ≡ linear_from l.name l.hyps 0 l.parts
