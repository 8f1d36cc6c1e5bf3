-- When polynomials hold in a world, and when multipliers are a certificate.
use Rattle.std.specs.Prelude.{◌≡◌, ℕ, ℤ, pos, ◌+ℤ◌, ◌*ℤ◌, ◌<ℤ◌, List, [], ◌∷◌}
use Rattle.ap_value.specs.Values.{V}
use Rattle.ap_term.specs.declared.term.Term.{Term}
use Rattle.ap_world.specs.Primitives.{int_of}
use Rattle.ap_world.specs.Meaning.{Env, Defs, HasValue}
use Rattle.ap_poly.specs.Polynomials.{Polynomial, value, Holds}

-- each term that has a value reads as the integer that it is, any other value as 0
abbrev pub Reads : Defs → Env → (Term → ℤ) → Type 0
Reads D e r = (u : Term) (v : V) → HasValue D u e v → r u ≡ int_of v

-- under an assignment a polynomial holds
abbrev pub PolyHolds : Defs → Env → Polynomial → Type 0
PolyHolds D e p = (r : Term → ℤ) → Reads D e r → Holds r p

-- the sum of the polynomials' values, each so often
abbrev pub weighted : (Term → ℤ) → List ℕ → List Polynomial → ℤ
weighted r (k ∷ ks) (p ∷ ps) = pos k *ℤ value r p +ℤ weighted r ks ps
weighted r ks ps = pos 0

-- a multiplier for each polynomial
abbrev pub OneEach : List ℕ → List Polynomial → Type 0
OneEach [] [] = Unit {0}
OneEach (k ∷ ks) (p ∷ ps) = OneEach ks ps
OneEach ks ps = ⊥

-- the weighted sum is a negative constant, whatever the atoms are
pub record IsCertificate (ps : List Polynomial) (by : List ℕ) : Type 0 where
  pub each : OneEach by ps
  pub sum : ℤ
  pub negative : sum <ℤ pos 0
  pub constant : (r : Term → ℤ) → weighted r by ps ≡ sum
