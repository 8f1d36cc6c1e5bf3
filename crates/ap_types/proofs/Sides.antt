-- What an equation or an inequality leaves is what it leaves of its two sides.
use Rattle.std.proofs.Common.{◌≡◌, ℕ, Bool, true, false, cond, ◌&&◌, Option, Some, refl}
use Rattle.std.specs.Int.Bits.{bit_and}
use Rattle.ap_value.specs.Values.{V, val_of}
use Rattle.ap_term.specs.declared.term.Term.{Term}
use Rattle.ap_term.specs.Equal.{term_eq}
use Rattle.ap_world.specs.declared.primitive.Primitive.{Primitive as Prim}
use Rattle.ap_world.specs.declared.primitive.Primitive.TheVariants.{Equal, Less}
use Rattle.ap_world.specs.Types.{positive_bit, negative_bit}
use Rattle.ap_world.specs.Shapes.{Shape, constant, shape_of}
use Rattle.ap_world.specs.Kinds.{all}
use Rattle.ap_world.specs.Narrowing.{signed, by_constant, is_zero, by_pair}
use Rattle.ap_types.specs.Sides.{by_value, by_side}

side_equal : (c s : Bool) (m : ℕ) (y : Shape Term) → cond c (by_constant s y) all ≡ by_side c s (Some Equal) m y
side_equal c s m (constant v) = refl
side_equal true s m y = refl
side_equal false s m y = refl

side_less : (c s : Bool) (m : ℕ) (y : Shape Term) → cond (c && is_zero y) (signed s m) all ≡ by_side c s (Some Less) m y
side_less true s m (constant v) = refl
side_less false s m (constant v) = refl
side_less true s m y = refl
side_less false s m y = refl

-- a head of which no value tells anything
side_none : (s : Bool) (o : Option Prim) (m : ℕ) → ((v : V) → by_value s o m v ≡ all) → (c : Bool) (y : Shape Term) → by_side c s o m y ≡ all
side_none s o m h true (constant v) = h (val_of v)
side_none s o m h false (constant v) = refl
side_none s o m h c y = refl

-- of both sides together
pub by_both : (u : Term) (s : Bool) (o : Option Prim) (a b : Term)
    → bit_and (by_side (term_eq a u) s o negative_bit (shape_of b)) (by_side (term_eq b u) s o positive_bit (shape_of a)) ≡ by_pair u s o a b
by_both u s (Some Equal) a b =
    rw (← side_equal (term_eq a u) s negative_bit (shape_of b), ← side_equal (term_eq b u) s positive_bit (shape_of a)) refl
by_both u s (Some Less) a b =
    rw (← side_less (term_eq a u) s negative_bit (shape_of b), ← side_less (term_eq b u) s positive_bit (shape_of a)) refl
by_both u s o a b =
    rw (side_none s o negative_bit (λ v. refl) (term_eq a u) (shape_of b), side_none s o positive_bit (λ v. refl) (term_eq b u) (shape_of a)) refl
