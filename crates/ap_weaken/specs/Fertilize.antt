-- Which hypothesis of a clause is used, and in which literal.
use Rattle.std.specs.Prelude.{ℕ, zero, suc, ◌+◌, Bool, cond, length, Option, Some, None, is_some}
use Rattle.ap_term.specs.declared.term.Clause.{Clause}
use Rattle.ap_kernel.specs.declared.reductions.Inference.{Inference}
use Rattle.ap_kernel.specs.Fertilising.{fertilise_made}
use Rattle.ap_kernel.specs.Splits.{and_then}

-- the first number of which the test is true, among n numbers from k on
abbrev pub first_number : (ℕ → Bool) → ℕ → ℕ → Option ℕ
first_number test zero k = None
first_number test (suc n) k = cond (test k) (Some k) (first_number test n (k + 1))

-- the place of the first literal that the literal at a place can be used in
abbrev pub can_use : Clause → ℕ → ℕ → Bool
can_use c i j = is_some (fertilise_made c i j)

abbrev pub used_in : Clause → ℕ → Option ℕ
used_in c i = first_number (can_use c i) (length c.0) 0

-- the place of the first literal that can be used in some literal
abbrev pub is_usable : Clause → ℕ → Bool
is_usable c i = is_some (used_in c i)

abbrev pub hypothesis : Clause → Option ℕ
hypothesis c = first_number (is_usable c) (length c.0) 0

-- both places
abbrev pub with_use : Clause → ℕ → Option (ℕ × ℕ)
with_use c i = and_then (used_in c i) (λ j. Some (i, j))

abbrev pub use_of : Clause → Option (ℕ × ℕ)
use_of c = and_then (hypothesis c) (with_use c)

-- and the clause that it leaves
abbrev pub fertilize_made : Clause → Option Inference
fertilize_made c = and_then (use_of c) (λ p. fertilise_made c p.0 p.1)
