-- What rewriting rests on: a sound world, and rules, definitions, masks and values that are right in it.
use Rattle.std.specs.Prelude.{◌≡◌, true, [], Some}
use Rattle.ap_list.specs.Lists.{Each}
use Rattle.ap_value.specs.declared.symbol.Symbol.{Symbol}
use Rattle.ap_value.specs.declared.value.Value.{Value}
use Rattle.ap_value.specs.Values.{val_of}
use Rattle.ap_term.specs.declared.term.Term.{Term}
use Rattle.ap_world.specs.declared.entry.Function.{Function}
use Rattle.ap_world.specs.Meaning.{Defs, HasValue}
use Rattle.ap_world.specs.Sound.{known, Sound}
use Rattle.ap_world.specs.World.{function_of, are_distinct}
use Rattle.ap_world.specs.Facts.{Facts, KnownFacts}
use Rattle.ap_kernel.specs.Standing.{DefinesNot}
use Rattle.ap_kernel.specs.Masks.{MaskHolds}
use Rattle.ap_world.specs.Holding.{RuleHolds}
use Rattle.ap_rewrite.specs.Arithmetic.{SoundArithmetic}
use Rattle.ap_rewrite.specs.Settings.{Setting}

-- what calls mean in the setting's world
abbrev pub defs_of : Setting → Defs
defs_of S = function_of S.world.entries

-- the world is sound, has the ground functions, and no name twice; the rules hold, what may be opened is defined so,
-- masks hold, a call's value is its value, and arithmetic is right
pub record SoundSetting (S : Setting) : Type 0 where
  pub sound : Sound S.world.entries
  pub ground : DefinesNot (defs_of S)
  pub names : are_distinct S.world.entries ≡ true
  pub rules : Each (RuleHolds (defs_of S)) S.rules
  pub functions : (f : Symbol) (g : Function) → S.functions f ≡ Some g → defs_of S f ≡ Some g
  pub arithmetic : SoundArithmetic S.arithmetic (defs_of S)
  pub types : (fs : Facts) (u : Term) → KnownFacts (defs_of S) fs → known (defs_of S) u ≡ true → MaskHolds (defs_of S) fs u (record { 0 = S.types fs u })
  pub value : (u : Term) (v : Value) → known (defs_of S) u ≡ true → S.value u ≡ Some v → HasValue (defs_of S) u [] (val_of v)
