use Rattle.std.proofs.Common.{◌≡◌, ◌++◌, List}
use Rattle.std.specs.Vec.Iter.{into_iter_items}
use Rattle.ap_rules.specs.declared.linear.LinearRule.{LinearRule}
use Rattle.ap_rules.proofs.linears.Linears.append.Given as goal

-- the rules so far stand at the end, and the others are to come
abbrev pub invariant-loop-rule : goal.invariant-loop-rule
invariant-loop-rule l = record {
  can_next : goal.iterator-loop-rule.can_next l.rule-iterator;
  is_finite : goal.iterator-loop-rule.is_finite l.rule-iterator;
  came : (gs : List LinearRule) × (l.self ≡ l.initial.self ++ gs) × (gs ++ into_iter_items l.rule-iterator ≡ into_iter_items l.initial.rule-iterator);
}
