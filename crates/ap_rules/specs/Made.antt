-- A rule of the code as a rule of the definitions.
use Rattle.std.specs.Prelude.{ℕ, List}
use Rattle.ap_value.specs.declared.symbol.Symbol.{Symbol}
use Rattle.ap_term.specs.declared.term.Term.{Term}
use Rattle.ap_world.specs.Rules.{Rule, Sides, sides}
use Rattle.ap_rules.specs.declared.rule.RewriteRule.{RewriteRule}
use Rattle.ap_rules.specs.Renaming.{as_rule}
use Rattle.ap_rules.specs.declared.statement.Reading.{Reading}

abbrev pub rule_in : RewriteRule → Rule
rule_in g = as_rule g.theorem g.part g.iff g.lhs g.rhs g.hyps

-- the rule of a conjunct
abbrev pub part_rule : Symbol → List Term → ℕ → Term → Rule
part_rule name hs i u = record { theorem = name; part = i; iff = (sides u).0; lhs = (sides u).1; rhs = (sides u).2; hyps = hs }

-- how a conjunct is read
abbrev pub as_sides : Reading → Sides
as_sides s = (s.iff, s.lhs, s.rhs)
