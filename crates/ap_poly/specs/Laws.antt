-- The laws of linear arithmetic.
use Rattle.std.specs.Prelude.{◌≡◌, ℕ, Bool, true, ℤ, pos, ◌+ℤ◌, ◌*ℤ◌, List, Some}
use Rattle.std.specs.Int.{IsGcd}
use Rattle.ap_list.specs.Lists.{Each}
use Rattle.ap_term.specs.declared.term.Term.{Term}
use Rattle.ap_world.specs.Meaning.{Env, Defs, HasValue, Total, FactHolds}
use Rattle.ap_world.specs.Types.{Has}
use Rattle.ap_value.specs.Values.{V}
use Rattle.ap_poly.specs.Bounds.{PolyKnown, bound, first_atoms}
use Rattle.ap_world.specs.Sound.{known}
use Rattle.ap_poly.specs.Polynomials.{Polynomial, IsPoly, value, add, scale}
use Rattle.ap_poly.specs.Literals.{of_literal}
use Rattle.ap_poly.specs.Elimination.{Row, rows_of, gcd, atoms_of, left_after, no_parts, lin}
use Rattle.ap_poly.specs.Holding.{PolyHolds, IsCertificate}

-- a literal's polynomials hold where the literal has the sign
abbrev pub LiteralsHold : Type 0
LiteralsHold = (D : Defs) → Total D → (u : Term) (s : Bool) → known D u ≡ true → (e : Env) → FactHolds D e (u, s) → Each (PolyHolds D e) (of_literal u s)

-- sums and multiples mean what they say, and so hold where their parts do
abbrev pub SumsMean : Type 0
SumsMean = (p q s : Polynomial) → add p q ≡ Some s → (r : Term → ℤ) → value r s ≡ value r p +ℤ value r q

abbrev pub MultiplesMean : Type 0
MultiplesMean = (k : ℕ) (p s : Polynomial) → scale k p ≡ Some s → (r : Term → ℤ) → value r s ≡ pos k *ℤ value r p

abbrev pub SumsHold : Type 0
SumsHold = (D : Defs) (e : Env) (p q s : Polynomial) → add p q ≡ Some s → PolyHolds D e p → PolyHolds D e q → PolyHolds D e s

abbrev pub MultiplesHold : Type 0
MultiplesHold = (D : Defs) (e : Env) (k : ℕ) (p s : Polynomial) → scale k p ≡ Some s → PolyHolds D e p → PolyHolds D e s

-- what is answered is a certificate
abbrev pub LinCertifies : Type 0
LinCertifies = (ps : List Polynomial) (by : List ℕ) → lin ps ≡ Some by → IsCertificate ps by

-- polynomials that have a certificate don't all hold
abbrev pub CertificatesRefute : Type 0
CertificatesRefute = (D : Defs) → Total D → (e : Env) (ps : List Polynomial) (by : List ℕ) → IsCertificate ps by → Each (PolyHolds D e) ps → ⊥

-- the polynomials that are made have distinct atoms in order and no coefficient 0
abbrev pub LiteralsAreOrdered : Type 0
LiteralsAreOrdered = (u : Term) (s : Bool) → Each IsPoly (of_literal u s)

abbrev pub SumsAreOrdered : Type 0
SumsAreOrdered = (p q s : Polynomial) → IsPoly p → IsPoly q → add p q ≡ Some s → IsPoly s

abbrev pub MultiplesAreOrdered : Type 0
MultiplesAreOrdered = (k : ℕ) (p s : Polynomial) → IsPoly p → scale k p ≡ Some s → IsPoly s

-- by Euclid's steps
abbrev pub DivisorIsGreatest : Type 0
DivisorIsGreatest = (a b : ℕ) → IsGcd a b (gcd a b)

-- once every atom is eliminated, constants alone are left
abbrev pub ConstantsAreLeft : Type 0
ConstantsAreLeft = (ps : List Polynomial) → Each IsPoly ps → Each (λ (w : Row). no_parts w.poly.parts ≡ true) (left_after (atoms_of ps) (rows_of ps))

-- what a mask says of an atom holds where its value has a type of the mask
abbrev pub BoundsHold : Type 0
BoundsHold = (D : Defs) (x : Term) (m : ℕ) (e : Env) (v : V) → HasValue D x e v → Has (record { 0 = m }) v → Each (PolyHolds D e) (bound x m)

-- the polynomials of a term of the world, and their atoms, speak of the world's terms alone
abbrev pub LiteralsAreKnown : Type 0
LiteralsAreKnown = (D : Defs) (u : Term) (s : Bool) → known D u ≡ true → Each (PolyKnown D) (of_literal u s)

abbrev pub AtomsAreKnown : Type 0
AtomsAreKnown = (D : Defs) (ps : List Polynomial) → Each (PolyKnown D) ps → Each (λ x. known D x ≡ true) (first_atoms ps)
