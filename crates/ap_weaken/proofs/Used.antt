-- The places that fertilization finds.
use Rattle.std.proofs.Common.{◌≡◌, ℕ, zero, suc, ◌+◌, Bool, true, false, cond, List, length, Option, Some, None, is_some, refl, sym, ap, ◌∙◌, subst}
use Rattle.ap_term.specs.declared.term.Term.{Term}
use Rattle.ap_term.specs.declared.term.Clause.{Clause}
use Rattle.ap_kernel.specs.Fertilising.{fertilise_made}
use Rattle.ap_kernel.specs.Splits.{and_then}
use Rattle.ap_kernel.proofs.Splitting.{then_some}
use Rattle.ap_weaken.specs.Fertilize.{first_number, can_use, use_of}

pub next_number : (test : ℕ → Bool) (n m k : ℕ) → n ≡ suc m → test k ≡ false → first_number test n k ≡ first_number test m (k + 1)
next_number test n m k e q = ap (λ l. first_number test l k) e ∙ ap (λ b. cond b (Some k) (first_number test m (k + 1))) q

pub this_number : (test : ℕ → Bool) (n m k : ℕ) → n ≡ suc m → test k ≡ true → first_number test n k ≡ Some k
this_number test n m k e q = ap (λ l. first_number test l k) e ∙ ap (λ b. cond b (Some k) (first_number test m (k + 1))) q

pub no_number : (test : ℕ → Bool) (n k : ℕ) → n ≡ 0 → first_number test n k ≡ None
no_number test n k h = ap (λ m. first_number test m k) h

found_true : (test : ℕ → Bool) (n k j : ℕ) → first_number test n k ≡ Some j → test j ≡ true
found_true test zero k j h = cc
found_true test (suc n) k j h = go (test k) refl (found_true test n (k + 1) j) h
  where
    go : (b : Bool) → test k ≡ b → (first_number test n (k + 1) ≡ Some j → test j ≡ true) → cond b (Some k) (first_number test n (k + 1)) ≡ Some j → test j ≡ true
    go true q later l = let same : k ≡ j = cc in subst (λ m. test m ≡ true) same q
    go false q later l = later l

same_pair : (p q : ℕ × ℕ) → Some p ≡ Some q → p ≡ q
same_pair p q h = cc

-- the first place from which some place passes, and the first that does
paired : (ℕ → ℕ → Bool) → ℕ → ℕ → Option (ℕ × ℕ)
paired test n k = and_then (first_number (test k) n 0) (λ l. Some (k, l))

picked_passes : (test : ℕ → ℕ → Bool) (n i j : ℕ) → and_then (first_number (λ k. is_some (first_number (test k) n 0)) n 0) (paired test n) ≡ Some (i, j) → test i j ≡ true
unfolding paired
picked_passes test n i j h =
    let (k, first, rest) = then_some (first_number (λ k. is_some (first_number (test k) n 0)) n 0) (paired test n) (i, j) h in
    let (l, second, last) = then_some {B = ℕ × ℕ} (first_number (test k) n 0) (λ l. Some (k, l)) (i, j) rest in
    let both = same_pair (k, l) (i, j) last in
    let passes : test k l ≡ true = found_true (test k) n 0 l second in
    subst (λ (p : ℕ × ℕ). test p.0 p.1 ≡ true) both passes

-- the kernel's row applies at the places, to a copy too
pub use_applies : (c : Clause) (ts : List Term) (i j : ℕ) → ts ≡ c.0 → use_of c ≡ Some (i, j) → is_some (fertilise_made (record { 0 = ts }) i j) ≡ true
unfolding paired
use_applies c ts i j same h =
    let applies : is_some (fertilise_made c i j) ≡ true = picked_passes (can_use c) (length c.0) i j h in
    subst (λ us. is_some (fertilise_made (record { 0 = us }) i j) ≡ true) (sym same) applies
