-- What an iterator that owns its items gives, by its steps alone.
use Rattle.std.proofs.Common.{arith, ◌≡◌, ℕ, zero, suc, List, [], ◌∷◌, take, drop, sym, subst, refl}
use Rattle.std.specs.Iterator.{AlwaysYields}
use Rattle.std.specs.Iterator.Adapters.{skip_source, skip_count, skip_steps}
use Rattle.std.specs.declared.vec.IntoIter.{IntoIter}
use Rattle.std.specs.Vec.Iter.{into_iter_items, into_iter_len, into_iter_steps}
use Rattle.std.proofs.lemmas.Iterator.{YieldsList}
use Rattle.std.proofs.lemmas.Iterator.Adapters.{YieldsList-from_skip}

-- so many of its items, from the first
steps_give : {A Z : Type 0} (n : ℕ) (xs : List A) (s : IntoIter A Z) → into_iter_items s ≡ xs → into_iter_len s ≡ n → AlwaysYields (into_iter_steps {X = A} {Z = Z}) (λ y. y) s (take n xs)
steps_give zero xs s items len = λ x t step. omega (arith, step.1, len)
steps_give (suc n) [] s items len = λ x t step. cc
steps_give (suc n) (y ∷ ys) s items len = (
  (λ t step. omega (arith, step.0, len)),
  λ x t step. ((cc), steps_give n ys t (cc) (omega (arith, step.1, len))),
)

gives : {A Z : Type 0} (s : IntoIter A Z) → YieldsList (into_iter_steps {X = A} {Z = Z}) (λ y. y) s (take (into_iter_len s) (into_iter_items s))
gives s = record { runs = steps_give (into_iter_len s) (into_iter_items s) s refl refl }

-- the same behind the first n
pub gives_behind : {A Z : Type 0} {s : _} (n : ℕ) (all : IntoIter A Z) → skip_source s ≡ all → skip_count s ≡ n
    → YieldsList (skip_steps (into_iter_steps {X = A} {Z = Z})) (λ y. y) s (drop n (take (into_iter_len all) (into_iter_items all)))
gives_behind {A} {Z} {s} n all source count = YieldsList-from_skip {s = s} n
    (subst (λ t. YieldsList (into_iter_steps {X = A} {Z = Z}) (λ y. y) t (take (into_iter_len all) (into_iter_items all))) (sym source) (gives all)) count
