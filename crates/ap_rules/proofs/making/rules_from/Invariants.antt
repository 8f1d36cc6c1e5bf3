use Rattle.std.proofs.Common.{◌≡◌, ◌++◌, drop, map}
use Rattle.ap_world.specs.Rules.{rules_from}
use Rattle.ap_rules.specs.Made.{rule_in}
use Rattle.ap_rules.proofs.making.rules_from.Given as goal

-- the rules so far, and those of the conjuncts that are left
abbrev pub invariant-loop-place : goal.invariant-loop-place
invariant-loop-place l = map rule_in l.out ++ rules_from l.name l.hyps l.place (drop l.place l.parts) ≡ rules_from l.name l.hyps 0 l.parts
