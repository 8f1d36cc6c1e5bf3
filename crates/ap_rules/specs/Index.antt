-- When an index has the rules of a world.
use Rattle.std.specs.Prelude.{◌≡◌, List}
use Rattle.ap_value.specs.declared.symbol.Symbol.{Symbol}
use Rattle.ap_world.specs.declared.entry.Entry.{Entry}
use Rattle.ap_world.specs.Rules.{Rule, rules_in}
use Rattle.ap_rules.specs.declared.table.RuleIndex.{RuleIndex}
use Rattle.ap_rules.specs.Grouped.{grouped_at}
use Rattle.ap_rules.specs.Indexed.{rules_for}
use Rattle.ap_rules.specs.Linear.{all_linear}

-- the rules that an index has for a head, newest first
abbrev pub rules_at : RuleIndex → Symbol → List Rule
rules_at ix f = grouped_at ix.groups f

-- for each head just those rules of the world whose left side may be such a call; and the world's linear rules
pub record IsIndex (ix : RuleIndex) (W : List Entry) : Type 0 where
  pub rewrites : (f : Symbol) → rules_at ix f ≡ rules_for f (rules_in W)
  pub linear : ix.linear ≡ all_linear W
