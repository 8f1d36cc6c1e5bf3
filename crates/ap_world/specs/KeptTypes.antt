-- The mask that a function keeps: reached from the empty mask by rounds of its body.
use Rattle.std.specs.Prelude.{ℕ, zero, suc, cond, nat_eq, []}
use Rattle.ap_value.specs.declared.symbol.Symbol.{Symbol}
use Rattle.ap_value.specs.Values.{symbol_eq}
use Rattle.ap_term.specs.declared.term.Term.{Term}
use Rattle.ap_world.specs.World.{Shown}
use Rattle.ap_world.specs.Kinds.{all}
use Rattle.ap_world.specs.Typing.{function_types, types_by}

-- the types of a function's calls, where those of one function have a mask of their own
abbrev pub types_with : Shown → Symbol → ℕ → Symbol → ℕ
types_with w name m f = cond (symbol_eq f name) m (function_types w f)

-- what the body gives back where the calls of the function have this mask; nothing is known of its formals
abbrev pub body_types : Shown → Symbol → Term → ℕ → ℕ
body_types w name body m = types_by (types_with w name m) body []

-- the mask that is given back as it was, after so many rounds at most, else all types
abbrev pub settled : (ℕ → ℕ) → ℕ → ℕ → ℕ
settled give zero m = all
settled give (suc n) m = cond (nat_eq (give m) m) m (settled give n (give m))

-- from no type on; there are ten that a round can add, so that the eleventh round adds none
abbrev pub kept_types : Shown → Symbol → Term → ℕ
kept_types w name body = settled (body_types w name body) 11 0
