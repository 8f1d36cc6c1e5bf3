-- What is known of a clause's literals before a cursor, and what a search from there finds.
use Rattle.std.specs.Prelude.{◌≡◌, ℕ, ◌≤◌, Bool, true, false, ◌&&◌, not, List, length, take, Some, None}
use Rattle.ap_list.specs.Lists.{Each, is_among}
use Rattle.ap_term.specs.declared.term.Term.{Term}
use Rattle.ap_term.specs.declared.term.Clause.{Clause}
use Rattle.ap_term.specs.Equal.{term_eq}
use Rattle.ap_world.specs.Shapes.{Shape, constant, negation, shape_of, is_constant}
use Rattle.ap_kernel.specs.Tidying.{is_bare, is_plain, tidied, holds_by_itself, is_denied}
use Rattle.ap_clausify.specs.Places.{has_if, first_choice}
use Rattle.ap_clausify.specs.Vanishing.{Vanishes}
use Rattle.ap_clausify.specs.declared.scanning.Scanned.{Scanned}
use Rattle.ap_clausify.specs.declared.scanning.Scanned.TheVariants as scanned

-- a literal that makes a clause hold by itself beside these, as is seen at sight: a constant other than nil, a
-- negation whose argument is one of them, or another whose negation is
abbrev pub closed_by : List Term → Term → Shape Term → Bool
closed_by ts u (constant v) = is_constant true u
closed_by ts u (negation a) = is_bare (shape_of a) && is_among term_eq a ts
closed_by ts u y = is_denied ts u

-- a literal that tidying keeps behind these as it is
abbrev pub is_kept : List Term → Term → Bool
is_kept ts u = (is_plain (shape_of u) && not (is_constant false u)) && not (is_among term_eq u ts)

-- literals that tidying leaves as they are: in plain form at sight, and they don't hold by themselves
pub record IsTidy (ts : List Term) : Type 0 where
  pub plain : Each (λ u. is_plain (shape_of u) ≡ true) ts
  pub same : tidied ts ≡ ts
  pub unclosed : holds_by_itself ts ≡ false

-- no literal before the cursor has an `if`, and those are tidy where they are said to be
pub record Ready (c : Clause) (cursor : ℕ) (is_tidy : Bool) : Type 0 where
  pub within : cursor ≤ length c.0
  pub none : Each (λ u. has_if u ≡ false) (take cursor c.0)
  pub tidy : is_tidy ≡ true → IsTidy (take cursor c.0)

-- what a search from the cursor on finds
abbrev pub Finds : Clause → Scanned → Type 0
Finds c (scanned.Choice p b) = (first_choice c ≡ Some (p.literal, p.at)) × Ready c p.literal b
Finds c (scanned.Closed k) = Vanishes c × Ready c k false
Finds c (scanned.Whole b) = (first_choice c ≡ None) × (b ≡ true → IsTidy c.0)
