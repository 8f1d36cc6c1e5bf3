-- Rewriting in a world: its rules and definitions, its masks, and the values that running gives.
use Rattle.std.specs.Prelude.{ℕ, List, [], Option, Some, None}
use Rattle.ap_value.specs.declared.value.Value.{Value}
use Rattle.ap_term.specs.declared.term.Term.{Term}
use Rattle.ap_world.specs.declared.theory.Theory.{Theory}
use Rattle.ap_world.specs.World.{Shown, function_of}
use Rattle.ap_world.specs.Units.{Outcome, gives, metered}
use Rattle.ap_world.specs.Typing.{types}
use Rattle.ap_world.specs.Rules.{rules_in}
use Rattle.ap_rewrite.specs.Arithmetic.{Arithmetic, arithmetic_in}
use Rattle.ap_rewrite.specs.Settings.{Setting}

-- the value that running gives, if it gives one
abbrev pub value_in : Outcome Value → Option Value
value_in (gives v n) = Some v
value_in o = None

-- a call of constants is run with so many units
abbrev pub most_units : ℕ
most_units = 2000

-- in a world, by a theory, where calls of the listed terms are opened. Masks go by the world's own theory, whatever
-- theory rules and definitions go by
abbrev pub setting_in : Shown → Theory → List Term → Arithmetic → Setting
setting_in w h us l = record {
  world = w;
  theory = h;
  rules = rules_in w.entries;
  functions = function_of w.entries;
  expand = us;
  arithmetic = l;
  types = types w;
  value = λ u. value_in (metered (function_of w.entries) u [] most_units);
}

-- the same with the world's own linear rules, those that the theory enables
abbrev pub world_setting : Shown → Theory → List Term → Setting
world_setting w h us = setting_in w h us (arithmetic_in w h)
