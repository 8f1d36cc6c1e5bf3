use Rattle.std.proofs.Common.{◌≡◌, drop}
use Rattle.ap_rewrite.specs.Relieving.{by_facts}
use Rattle.ap_rewrite.proofs.facts.by_facts.Given as goal

-- what is left of the facts has the answer
abbrev pub invariant-loop-i : goal.invariant-loop-i
invariant-loop-i l = by_facts l.pattern l.sign l.start.0 (drop l.i l.facts) ≡ by_facts l.pattern l.sign l.start.0 l.facts
