-- The theorems about a function, one by one.
use Rattle.std.proofs.Common.{◌≡◌, ◌≤◌, ℕ, zero, suc, ◌+◌, Bool, true, false, cond, List, [], ◌∷◌, drop, length, Some, None, slice_get, refl, ap, sym, ◌∙◌, arith}
use Rattle.std.specs.Int.Bits.{bit_and}
use Rattle.ap_value.specs.declared.symbol.Symbol.{Symbol}
use Rattle.ap_world.specs.declared.entry.Theorem.{Theorem}
use Rattle.ap_world.specs.declared.entry.Entry.{Entry}
use Rattle.ap_world.specs.declared.entry.Entry.TheVariants as entry
use Rattle.ap_world.specs.declared.theory.Theory.{Theory}
use Rattle.ap_world.specs.Prescribing.{prescribed, is_name, theorems_about}
use Rattle.ap_world.specs.Typing.{left_by, narrowed}

-- no more theorems are about a function than there are entries
fewer : (f : Symbol) (W : List Entry) → length (theorems_about f W) ≤ length W
fewer f [] = omega arith
fewer f (entry.Theorem u ∷ W) = go (is_name f (prescribed u)) (fewer f W)
  where
    go : (b : Bool) → length (theorems_about f W) ≤ length W → length (cond b (u ∷ theorems_about f W) (theorems_about f W)) ≤ suc (length W)
    go true h = omega arith
    go false h = omega arith
fewer f (entry.Function g ∷ W) = let h = fewer f W in omega arith
fewer f (entry.Constant c v ∷ W) = let h = fewer f W in omega arith

narrowed_past : (h : Theory) (us : List Theorem) (i m : ℕ) → length us ≤ i → narrowed h (drop i us) m ≡ m
narrowed_past h [] zero m l = refl
narrowed_past h [] (suc i) m l = refl
narrowed_past h (u ∷ us) zero m l = absurd (omega arith)
narrowed_past h (u ∷ us) (suc i) m l = narrowed_past h us i m (omega arith)

narrowed_none : (h : Theory) (us : List Theorem) (i m : ℕ) → slice_get us i ≡ None → narrowed h (drop i us) m ≡ m
narrowed_none h [] zero m l = refl
narrowed_none h [] (suc i) m l = refl
narrowed_none h (u ∷ us) zero m l = cc
narrowed_none h (u ∷ us) (suc i) m l = narrowed_none h us i m l

narrowed_some : (h : Theory) (us : List Theorem) (i : ℕ) (u : Theorem) (m : ℕ) → slice_get us i ≡ Some u
    → narrowed h (drop (suc i) us) (bit_and m (left_by h u)) ≡ narrowed h (drop i us) m
narrowed_some h [] i u m l = cc
narrowed_some h (v ∷ us) zero u m l = let e : u ≡ v = cc in rw e refl
narrowed_some h (v ∷ us) (suc i) u m l = narrowed_some h us i u m l

add_one : (i : ℕ) → i + 1 ≡ suc i
add_one i = omega arith

-- where no number is left, and where no theorem is
pub all_cut : (h : Theory) (f : Symbol) (W : List Entry) (i m n : ℕ) → length W ≤ i → narrowed h (drop i (theorems_about f W)) n ≡ narrowed h (theorems_about f W) m
    → n ≡ narrowed h (theorems_about f W) m
all_cut h f W i m n l k = let few = fewer f W in sym (narrowed_past h (theorems_about f W) i n (omega arith)) ∙ k

pub none_left : (h : Theory) (us : List Theorem) (i m n : ℕ) → slice_get us i ≡ None → narrowed h (drop i us) n ≡ narrowed h us m → n ≡ narrowed h us m
none_left h us i m n none k = sym (narrowed_none h us i n none) ∙ k

-- one theorem more
pub one_cut : (h : Theory) (us : List Theorem) (i m n : ℕ) (u : Theorem) → slice_get us i ≡ Some u → narrowed h (drop i us) n ≡ narrowed h us m
    → narrowed h (drop (i + 1) us) (bit_and n (left_by h u)) ≡ narrowed h us m
one_cut h us i m n u some k = ap (λ j. narrowed h (drop j us) (bit_and n (left_by h u))) (add_one i) ∙ narrowed_some h us i u n some ∙ k
