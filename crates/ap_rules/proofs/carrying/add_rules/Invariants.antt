use Rattle.std.proofs.Common.{◌≡◌, ◌++◌, List, map, true}
use Rattle.std.specs.Vec.Iter.{into_iter_items}
use Rattle.ap_list.specs.Lists.{Each}
use Rattle.ap_term.specs.declared.term.Term.{out-Term}
use Rattle.ap_world.specs.Rules.{Rule, is_left}
use Rattle.ap_rules.specs.Made.{rule_in}
use Rattle.ap_rules.specs.Carried.{Keeps}
use Rattle.ap_rules.proofs.carrying.add_rules.Given as goal

-- the rules so far stand at the end, and the others are to come
abbrev pub invariant-loop-rule : goal.invariant-loop-rule
invariant-loop-rule l = record {
  can_next : goal.iterator-loop-rule.can_next l.rule-iterator;
  is_finite : goal.iterator-loop-rule.is_finite l.rule-iterator;
  left : Each (λ g. is_left (out-Term g.lhs) ≡ true) (into_iter_items l.rule-iterator);
  came : (rs : List Rule) → Keeps l.initial.groups l.initial.heads rs → (qs : List Rule) × Keeps l.groups l.heads (rs ++ qs) × (qs ++ map rule_in (into_iter_items l.rule-iterator) ≡ map rule_in (into_iter_items l.initial.rule-iterator));
}
