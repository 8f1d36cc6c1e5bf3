-- What is said of the rules of every world.
use Rattle.std.specs.Prelude.{◌≡◌, ◌↔◌, true, List, Some}
use Rattle.ap_list.specs.Lists.{Each}
use Rattle.ap_world.specs.declared.entry.Entry.{Entry}
use Rattle.ap_world.specs.Rules.{Rule, rules_in, is_permutative}
use Rattle.ap_world.specs.Names.{not_name}
use Rattle.ap_world.specs.Sound.{not_function, Sound}
use Rattle.ap_world.specs.World.{function_of, are_distinct}
use Rattle.ap_world.specs.Holding.{part_of}
use Rattle.ap_rules.specs.Linear.{linear_rules_in, LinearHolds}
use Rattle.ap_rules.specs.Renaming.{IsRenamed}

-- a rule is the part with its number of the theorem with its name
abbrev pub RulesAreParts : Type 0
RulesAreParts = (W : List Entry) → are_distinct W ≡ true → Each (λ g. part_of W g.theorem g.part ≡ Some g) (rules_in W)

-- the linear rules of a sound world hold
abbrev pub LinearRulesHold : Type 0
LinearRulesHold = (W : List Entry) → Sound W → function_of W not_name ≡ Some not_function → Each (LinearHolds (function_of W)) (linear_rules_in W)

-- a rule is permutative exactly where its right side is its left side with the variables renamed, one to one
abbrev pub PermutativeRenames : Type 0
PermutativeRenames = (r : Rule) → (is_permutative r ≡ true) ↔ IsRenamed r.lhs r.rhs
