-- Of which terms facts say something, told by places that their hashes give.
use Rattle.std.specs.Prelude.{◌≡◌, ℕ, ◌%◌, Bool, false, List, [], ◌∷◌, get_or, Option, Some, None}
use Rattle.std.specs.Int.Bits.{bit_and}
use Rattle.ap_list.specs.Lists.{Each}
use Rattle.ap_term.specs.declared.term.Term.{Term}
use Rattle.ap_term.specs.Equal.{term_eq}
use Rattle.ap_term.specs.Hashes.{term_hash}
use Rattle.ap_world.specs.declared.primitive.Primitive.{Primitive as Prim}
use Rattle.ap_world.specs.Facts.{Facts}
use Rattle.ap_world.specs.Kinds.{all}
use Rattle.ap_world.specs.Narrowing.{leaves}
use Rattle.ap_world.specs.Shapes.{shape_of}
use Rattle.ap_types.specs.Sides.{by_side}

-- the place of a term among 256
unfoldable pub place : Term → ℕ
place u = term_hash u % 256

-- nothing is noted of a term's place
abbrev pub IsFree : List Bool → Term → Type 0
IsFree notes u = get_or notes (place u) false ≡ false

-- a place that is free now was free, and of the terms there this holds
abbrev pub Marks : List Bool → List Bool → (Term → Type 0) → Type 0
Marks old new P = (u : Term) → IsFree new u → IsFree old u × P u

-- what an equation or an inequality says of its side a, where b is the other, leaves a term alone
abbrev pub IsSilentSide : Term → Term → Term → Type 0
IsSilentSide a b u = (s : Bool) (o : Option Prim) (m : ℕ) → by_side (term_eq a u) s o m (shape_of b) ≡ all

-- what a fact that is a call of these arguments says of them leaves a term alone
abbrev pub AreSilent : List Term → Term → Type 0
AreSilent (a ∷ []) u = term_eq a u ≡ false
AreSilent (a ∷ b ∷ []) u = IsSilentSide a b u × IsSilentSide b a u
AreSilent ts u = Unit {0}

-- a fact leaves a term's types alone
abbrev pub IsSilent : Term → Term → Type 0
IsSilent f u = (s : Bool) → leaves u f s ≡ all

-- and so do facts
abbrev pub AreApart : Facts → Term → Type 0
AreApart fs u = Each (λ f. leaves u f.0 f.1 ≡ all) fs

-- facts leave the types of a term alone whose place is free
abbrev pub Unspoken : List Bool → Facts → Type 0
Unspoken notes fs = (u : Term) → IsFree notes u → AreApart fs u

-- the types that facts leave which leave them alone
abbrev pub left_alone : Facts → ℕ → ℕ
left_alone [] m = m
left_alone (f ∷ fs) m = bit_and m all

-- where places are noted, they are those of these facts
abbrev pub Notes : Facts → Option (List Bool) → Type 0
Notes fs None = Unit {0}
Notes fs (Some notes) = Unspoken notes fs
