-- What a fact says of a term's types.
use Rattle.std.specs.Prelude.{ℕ, Bool, false, cond, ◌&&◌, pos, [], ◌∷◌, Option, Some, None}
use Rattle.std.specs.Int.Bits.{bit_and}
use Rattle.ap_value.specs.Values.{int, val_of, value_eq}
use Rattle.ap_term.specs.declared.term.Term.{Term, out-Term}
use Rattle.ap_term.specs.declared.term.Term.TheOpen.{Term-F}
use Rattle.ap_term.specs.Equal.{term_eq}
use Rattle.ap_world.specs.declared.primitive.Primitive.{Primitive as Prim}
use Rattle.ap_world.specs.declared.primitive.Primitive.TheVariants.{Equal, Less}
use Rattle.ap_world.specs.Primitives.{prim_of}
use Rattle.ap_world.specs.Types.{nil_bit, positive_bit, negative_bit}
use Rattle.ap_world.specs.Facts.{Facts}
use Rattle.ap_world.specs.Shapes.{Shape, constant, shape_of}
use Rattle.ap_world.specs.Kinds.{Kind, bit, kind_of, all, without}
use Rattle.ap_world.specs.Rows.{recognised, is_single}

-- the types where the sign is true, the others where it is false
abbrev pub signed : Bool → ℕ → ℕ
signed s m = cond s m (without m)

-- the term itself: true takes nil away, false leaves it alone
abbrev pub by_itself : Term → Term → Bool → ℕ
by_itself u f s = cond (term_eq f u) (signed s (without nil_bit)) all

-- a recogniser of the term leaves or takes away its types
abbrev pub by_recogniser : Bool → Option ℕ → ℕ
by_recogniser s (Some r) = signed s r
by_recogniser s None = all

-- an equation with a constant leaves its type, or takes it away where that has one value alone
abbrev pub by_kind : Bool → Kind → ℕ
by_kind s k = cond s (bit k) (cond (is_single k) (without (bit k)) all)

abbrev pub by_constant : Bool → Shape Term → ℕ
by_constant s (constant v) = by_kind s (kind_of (val_of v))
by_constant s y = all

abbrev pub by_equation : Term → Bool → Term → Term → ℕ
by_equation u s a b = cond (term_eq a u) (by_constant s (shape_of b)) all

-- an inequality with 0 leaves or takes away the negative types, or the positive ones
abbrev pub is_zero : Shape Term → Bool
is_zero (constant v) = value_eq (val_of v) (int (pos 0))
is_zero y = false

abbrev pub by_bound : Term → Bool → ℕ → Term → Term → ℕ
by_bound u s m a b = cond (term_eq a u && is_zero (shape_of b)) (signed s m) all

abbrev pub by_pair : Term → Bool → Option Prim → Term → Term → ℕ
by_pair u s (Some Equal) a b = bit_and (by_equation u s a b) (by_equation u s b a)
by_pair u s (Some Less) a b = bit_and (by_bound u s negative_bit a b) (by_bound u s positive_bit b a)
by_pair u s o a b = all

abbrev pub by_parts : Term → Bool → Term-F Term → ℕ
by_parts u s (Term-F.Call f (a ∷ [])) = cond (term_eq a u) (by_recogniser s (recognised f)) all
by_parts u s (Term-F.Call f (a ∷ b ∷ [])) = by_pair u s (prim_of f) a b
by_parts u s y = all

-- the types that a fact leaves of a term's
abbrev pub leaves : Term → Term → Bool → ℕ
leaves u f s = bit_and (by_itself u f s) (by_parts u s (out-Term f))

-- a mask of a term cut by the facts on it
abbrev pub cut : Facts → Term → ℕ → ℕ
cut [] u m = m
cut (f ∷ fs) u m = cut fs u (bit_and m (leaves u f.0 f.1))
