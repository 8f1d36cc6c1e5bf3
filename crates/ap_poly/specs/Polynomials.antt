-- Polynomials: a constant and integer multiples of atoms, which rise in the order of terms. What one stands for is that
-- the constant plus the sum of coefficient times atom is at least 0.
use Rattle.std.specs.Prelude.{◌≡◌, ℕ, false, cond, ℤ, pos, ◌+ℤ◌, ◌*ℤ◌, ◌≤ℤ◌, List, [], ◌∷◌, Option, Some, None}
use Rattle.ap_list.specs.Lists.{Each}
use Rattle.ap_value.specs.Values.{int_eq}
use Rattle.ap_term.specs.declared.term.Term.{Term}
use Rattle.ap_term.specs.Equal.{term_eq}
use Rattle.ap_term.specs.Order.{term_less}
pub use Rattle.ap_world.specs.Units.{narrow}

-- the atoms with their coefficients
abbrev pub Parts : Type 0
Parts = List (Term × ℤ)

pub record Polynomial : Type 0 where
  pub constant : ℤ
  pub parts : Parts

-- the part doesn't stand before the atom, and is of another
abbrev pub Later : Term → Term × ℤ → Type 0
Later t q = (term_less q.0 t ≡ false) × (term_eq t q.0 ≡ false)

-- the atoms are distinct and in order, and no coefficient is 0
abbrev pub Ordered : Parts → Type 0
Ordered [] = Unit {0}
Ordered (p ∷ ps) = Each (Later p.0) ps × (int_eq p.1 (pos 0) ≡ false) × Ordered ps

abbrev pub IsPoly : Polynomial → Type 0
IsPoly p = Ordered p.parts

-- what each term reads as gives a polynomial its value
abbrev pub parts_value : (Term → ℤ) → Parts → ℤ
parts_value r [] = pos 0
parts_value r (p ∷ ps) = p.1 *ℤ r p.0 +ℤ parts_value r ps

abbrev pub value : (Term → ℤ) → Polynomial → ℤ
value r p = p.constant +ℤ parts_value r p.parts

-- it is at least 0
abbrev pub Holds : (Term → ℤ) → Polynomial → Type 0
Holds r p = pos 0 ≤ℤ value r p

-- the first has a value and what follows has one
abbrev pub and_then : {A B : Type 0} → Option A → (A → Option B) → Option B
and_then None f = None
and_then (Some x) f = f x

-- the parts with this one before them, which is left out where its coefficient is 0
abbrev pub with_part : Term → ℤ → Parts → Parts
with_part t c ps = cond (int_eq c (pos 0)) ps ((t, c) ∷ ps)

abbrev pub after : Term × ℤ → Option Parts → Option Parts
after p None = None
after p (Some ps) = Some (p ∷ ps)

-- a multiple of an atom added at its place, none where a coefficient leaves 128 bits
abbrev pub put : Term → ℤ → Parts → Option Parts
put t k [] = Some (with_part t k [])
put t k (p ∷ ps) =
    cond (term_eq t p.0) (and_then (narrow (k +ℤ p.1)) (λ c. Some (with_part t c ps)))
    (cond (term_less t p.0) (Some (with_part t k (p ∷ ps))) (after p (put t k ps)))

abbrev pub add_parts : Parts → Parts → Option Parts
add_parts [] qs = Some qs
add_parts (p ∷ ps) qs = and_then (add_parts ps qs) (put p.0 p.1)

abbrev pub add : Polynomial → Polynomial → Option Polynomial
add p q =
    and_then (narrow (p.constant +ℤ q.constant)) (λ c.
    and_then (add_parts p.parts q.parts) (λ ps. Some (record { constant = c; parts = ps })))

abbrev pub scale_parts : ℕ → Parts → Option Parts
scale_parts k [] = Some []
scale_parts k (p ∷ ps) = and_then (narrow (pos k *ℤ p.1)) (λ c. and_then (scale_parts k ps) (λ qs. Some (with_part p.0 c qs)))

abbrev pub scale : ℕ → Polynomial → Option Polynomial
scale k p =
    and_then (narrow (pos k *ℤ p.constant)) (λ c.
    and_then (scale_parts k p.parts) (λ ps. Some (record { constant = c; parts = ps })))
