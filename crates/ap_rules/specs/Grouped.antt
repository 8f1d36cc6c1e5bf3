-- Rules by the heads of their left sides.
use Rattle.std.specs.Prelude.{Bool, cond, List, [], ◌∷◌, map, drop, unwrap_or}
use Rattle.std.specs.Map.{lookup}
use Rattle.ap_value.specs.declared.symbol.Symbol.{Symbol}
use Rattle.ap_value.specs.Values.{symbol_eq}
use Rattle.ap_world.specs.Rules.{Rule}
use Rattle.ap_rules.specs.declared.rule.RewriteRule.{RewriteRule}
use Rattle.ap_rules.specs.Made.{rule_in}

-- for each head its rules, newest first
abbrev pub Table : Type 0
Table = List (Symbol × List RewriteRule)

-- what a table has for a head
abbrev pub at_head : {G : Type 0} → List (Symbol × List G) → Symbol → List G
at_head table f = unwrap_or (lookup (symbol_eq f) table) []

abbrev pub group_at : Table → Symbol → List RewriteRule
group_at table f = at_head table f

abbrev pub grouped_at : Table → Symbol → List Rule
grouped_at table f = map rule_in (group_at table f)

-- with one rule more before them, without the first, or as they are
abbrev pub with_first : Bool → RewriteRule → List RewriteRule → List RewriteRule
with_first b g gs = cond b (g ∷ gs) gs

abbrev pub without_first : Bool → List RewriteRule → List RewriteRule
without_first b gs = cond b (drop 1 gs) gs
