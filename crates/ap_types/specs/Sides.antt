-- What an equation or an inequality leaves of a term that is one of its sides, where the other is a constant.
use Rattle.std.specs.Prelude.{ℕ, Bool, cond, pos, Option, Some}
use Rattle.ap_value.specs.Values.{V, int, val_of, value_eq}
use Rattle.ap_term.specs.declared.term.Term.{Term}
use Rattle.ap_world.specs.declared.primitive.Primitive.{Primitive as Prim}
use Rattle.ap_world.specs.declared.primitive.Primitive.TheVariants.{Equal, Less}
use Rattle.ap_world.specs.Shapes.{Shape, constant}
use Rattle.ap_world.specs.Kinds.{kind_of, all}
use Rattle.ap_world.specs.Narrowing.{signed, by_kind}

-- of the side across from a value: an inequality with 0 leaves this mask or takes it away
abbrev pub by_value : Bool → Option Prim → ℕ → V → ℕ
by_value s (Some Equal) m v = by_kind s (kind_of v)
by_value s (Some Less) m v = cond (value_eq v (int (pos 0))) (signed s m) all
by_value s o m v = all

-- of a term, by whether it is the one side, and by the shape of the other
abbrev pub by_side : Bool → Bool → Option Prim → ℕ → Shape Term → ℕ
by_side is s o m (constant v) = cond is (by_value s o m (val_of v)) all
by_side is s o m y = all
