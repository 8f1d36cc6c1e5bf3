-- What a mask says of a term under facts, and when it leaves one value alone.
use Rattle.std.specs.Prelude.{◌≡◌, ℕ, Bool, cond, not, ◌&&◌, ◌||◌, nat_eq, bit_and, pos, [], ◌∷◌}
use Rattle.ap_value.specs.declared.symbol.Symbol.{Symbol}
use Rattle.ap_value.specs.declared.value.Value.{Value}
use Rattle.ap_value.specs.Values.{V, int, val_of, value_eq}
use Rattle.ap_term.specs.declared.term.Term.{Term, Quote, Call}
use Rattle.ap_world.specs.declared.entry.Mask.{Mask}
use Rattle.ap_world.specs.Primitives.{nil, t}
use Rattle.ap_world.specs.Meaning.{Env, Defs, HasValue}
use Rattle.ap_world.specs.Kinds.{all, without}
use Rattle.ap_world.specs.Types.{Has, zero_bit, nil_bit, t_bit}
use Rattle.ap_world.specs.Facts.{Facts, FactsHold}
use Rattle.ap_kernel.specs.declared.objects.Ctx.{Ctx}
use Rattle.ap_kernel.specs.declared.objects.Mode.{Mode}
use Rattle.ap_kernel.specs.declared.objects.Mode.TheVariants.{Equal, Iff}
use Rattle.ap_kernel.specs.declared.objects.Sequent.{Sequent}

-- wherever the facts hold, the type of the term's value is in the mask
abbrev pub MaskHolds : Defs → Facts → Term → Mask → Type 0
MaskHolds D fs u m = (e : Env) → FactsHold D e fs → (v : V) → HasValue D u e v → Has m v

-- the types that have another value than this one: all but the value's own where that type has no other
abbrev pub types_of_others : V → ℕ
types_of_others v = cond (value_eq v nil) (without nil_bit) (cond (value_eq v t) (without t_bit) (cond (value_eq v (int (pos 0))) (without zero_bit) all))

-- the mask has no other value than this one
abbrev pub has_only : Mask → V → Bool
has_only m v = nat_eq (bit_and m.0 (types_of_others v)) 0

-- the mask excludes nil
abbrev pub lacks_nil : Mask → Bool
lacks_nil m = nat_eq (bit_and m.0 nil_bit) 0

-- a term may lead to a value where the mask has no other, or, for a value other than nil, excludes nil
abbrev pub leads_to : Mask → V → Bool
leads_to m v = has_only m v || (not (value_eq v nil) && lacks_nil m)

-- it leads to it under `iff` only where the mask has another value
abbrev pub typed_mode : Mask → V → Mode
typed_mode m v = cond (has_only m v) Equal Iff

abbrev pub typed_made : Ctx → Term → Mask → Value → Sequent
typed_made c u m v = record { ctx = c; mode = typed_mode m (val_of v); lhs = u; rhs = Quote v }

-- a call of this function on one argument
abbrev pub IsCallOf : Symbol → Term → Type 0
IsCallOf f u = (a : Term) × (u ≡ Call f (a ∷ []))
