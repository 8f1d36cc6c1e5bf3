-- The types of a function's calls, as the program carries them along: those that the world gives, but for
-- one function that may have a mask of its own.
use Rattle.std.specs.Prelude.{ℕ, Option, Some, None}
use Rattle.ap_value.specs.declared.symbol.Symbol.{Symbol}
use Rattle.ap_world.specs.World.{Shown}
use Rattle.ap_world.specs.Typing.{function_types}
use Rattle.ap_world.specs.KeptTypes.{types_with}
use Rattle.ap_types.specs.declared.calls.Own.{Own}

abbrev pub types_in : Shown → Option Own → Symbol → ℕ
types_in w None = function_types w
types_in w (Some o) = types_with w o.name.now o.mask
