-- The laws of running, as the public functions of the module of laws state them.
use Rattle.std.specs.Prelude.{◌≡◌, ℕ, ◌+◌, ◌-◌, Bool, true, false, cond, ◌↔◌, ℤ, nat_lt, List, map, Some, None}
use Rattle.ap_value.specs.declared.symbol.Symbol.{Symbol}
use Rattle.ap_value.specs.declared.value.Value.{Value}
use Rattle.ap_value.specs.Values.{V, int, val_of}
use Rattle.ap_term.specs.declared.term.Term.{Term, Call}
use Rattle.ap_world.specs.declared.primitive.Primitive.{Primitive as Prim}
use Rattle.ap_world.specs.declared.primitive.Primitive.TheVariants.{Plus, Times, Minus}
use Rattle.ap_world.specs.Primitives.{prim, prim_of}
use Rattle.ap_world.specs.Meaning.{Defs, HasValue, Total}
use Rattle.ap_world.specs.Sound.{known}
use Rattle.ap_world.specs.Units.{Outcome, gives, wide, spent, large, is_narrow, Assigned, meant_by, prim_value, is_choice, run, calls_run, metered}

-- calls that may be nested deeper than there are units give the same: no run stops for its depth
abbrev pub DepthIsEnough : Type 0
DepthIsEnough = (D : Defs) (u : Term) (e : Assigned) (n k : ℕ) → run (calls_run (n + k) D) u e n ≡ metered D u e n

-- the primitives that make an integer of integers
abbrev pub is_arithmetic : Prim → Bool
is_arithmetic Plus = true
is_arithmetic Times = true
is_arithmetic Minus = true
is_arithmetic p = false

-- such a primitive means an integer here that 128 bits don't hold
pub record Overflows (p : Prim) (v : V) : Type 0 where
  pub arithmetic : is_arithmetic p ≡ true
  pub integer : ℤ
  pub is : v ≡ int integer
  pub leaves : is_narrow integer ≡ false

-- a primitive that means something here has no value exactly where that is such an integer
abbrev pub WideIsOverflow : Type 0
WideIsOverflow = (p : Prim) (vs : List Value) (v : V) → is_choice p ≡ false → prim p (map val_of vs) ≡ Some v → (prim_value p vs ≡ None) ↔ Overflows p v

-- a call, at these argument values, of a primitive that overflows
pub record OverflowsAt (u : Term) (vs : List Value) : Type 0 where
  pub f : Symbol
  pub ts : List Term
  pub call : u ≡ Call f ts
  pub p : Prim
  pub named : prim_of f ≡ Some p
  pub v : V
  pub means : prim p (map val_of vs) ≡ Some v
  pub overflows : Overflows p v

-- how running ends where units enough are given
pub data End (A : Type 0) : Type 0 where
  value : A → End A
  overflow : Term → List Value → End A
  too_large : End A

-- what it then gives, with so many units left
abbrev pub ended : {A : Type 0} → End A → ℕ → Outcome A
ended (value a) n = gives a n
ended (overflow u vs) n = wide u vs
ended too_large n = large

-- a cost: with fewer units it is spent, with as many it ends, and what is more is left
abbrev pub costing : {A : Type 0} → ℕ → End A → ℕ → Outcome A
costing c o n = cond (nat_lt n c) spent (ended o (n - c))

-- the end is a value of this kind, or an integer that left 128 bits, or a value that is too large
abbrev pub IsEnd : {A : Type 0} → (A → Type 0) → End A → Type 0
IsEnd P (value a) = P a
IsEnd P (overflow u vs) = OverflowsAt u vs
IsEnd P too_large = Unit {0}

-- in a total world each known term has a cost: with fewer units it is spent, and else it ends, with its
-- value, unless an integer leaves 128 bits or a value is too large first
pub record HasCost (D : Defs) (u : Term) (e : Assigned) : Type 0 where
  pub v : V
  pub means : HasValue D u (meant_by e) v
  pub cost : ℕ
  pub end : End Value
  pub is_end : IsEnd (λ w. val_of w ≡ v) end
  pub runs : (n : ℕ) → metered D u e n ≡ costing cost end n

abbrev pub KnownTermsHaveCosts : Type 0
KnownTermsHaveCosts = (D : Defs) → Total D → (u : Term) → known D u ≡ true → (e : Assigned) → HasCost D u e
