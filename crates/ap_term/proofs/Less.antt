-- What comes first by the order of terms, test by test.
use Rattle.std.proofs.Common.{◌≡◌, ℕ, ◌<◌, ◌⊎◌, inl, inr, Bool, true, false, nat_lt, List, [], ◌∷◌, ◌++◌, None, refl, sym, ap, ◌∙◌, arith}
use Rattle.std.proofs.lemmas.Bool.Decides.{nat_tests}
use Rattle.std.proofs.lemmas.List.{append-nil}
use Rattle.std.specs.Ordering.{nat_cmp, ordering_then, is_lt}
use Rattle.std.specs.declared.cmp.Ordering.{Ordering}
use Rattle.std.specs.declared.cmp.Ordering.TheVariants.{Less, Equal, Greater}
use Rattle.ap_term.specs.Order.{number_first, bytes_less}
use Rattle.ap_term.specs.Compared.{bytes_order, Decided}
use Rattle.ap_term.proofs.Compares.{three, cmp-less, cmp-greater, cmp-same}

-- numbers that differ decide, and between equal ones the next test does
first-apart : (m n : ℕ) (b : Bool) → (m ≡ n → ⊥) → number_first m n b ≡ nat_lt m n
first-apart m n b h = grind (arith, nat_tests)

first-next : (m n : ℕ) (b : Bool) → m ≡ n → number_first m n b ≡ b
first-next m n true h = grind (arith, nat_tests)
first-next m n false h = grind (arith, nat_tests)

-- a test that decides, and one that leaves it to the next
pub by_first : (m n m' n' : ℕ) (b : Bool) → m ≡ m' → n ≡ n' → (m ≡ n → ⊥) → nat_lt m n ≡ number_first m' n' b
by_first m n m' n' b e f ne =
    sym (ap (λ k. number_first k n' b) (sym e) ∙ ap (λ k. number_first m k b) (sym f) ∙ first-apart m n b ne)

pub by_next : (m n m' n' : ℕ) (b r : Bool) → m ≡ m' → n ≡ n' → m ≡ n → r ≡ b → r ≡ number_first m' n' b
by_next m n m' n' b r e f k h = h ∙ sym (first-next m' n' b (sym e ∙ k ∙ f))

first-below : (m n : ℕ) (b : Bool) → m < n → number_first m n b ≡ true
first-below m n b h = grind (arith, nat_tests)

first-above : (m n : ℕ) (b : Bool) → n < m → number_first m n b ≡ false
first-above m n b h = grind (arith, nat_tests)

bytes_less-order : (xs ys : List ℕ) → bytes_less xs ys ≡ is_lt (bytes_order xs ys)
bytes_less-order [] [] = refl
bytes_less-order [] (y ∷ ys) = refl
bytes_less-order (x ∷ xs) [] = refl
bytes_less-order (x ∷ xs) (y ∷ ys) = by (three x y) (bytes_less-order xs ys)
  where
    along : (o : Ordering) → nat_cmp x y ≡ o → is_lt (ordering_then o (bytes_order xs ys)) ≡ is_lt (ordering_then (nat_cmp x y) (bytes_order xs ys))
    along o e = ap (λ z. is_lt (ordering_then z (bytes_order xs ys))) (sym e)

    by : (x < y) ⊎ ((x ≡ y) ⊎ (y < x)) → bytes_less xs ys ≡ is_lt (bytes_order xs ys) → number_first x y (bytes_less xs ys) ≡ is_lt (ordering_then (nat_cmp x y) (bytes_order xs ys))
    by (inl k) next = first-below x y (bytes_less xs ys) k ∙ along Less (cmp-less x y k)
    by (inr (inl k)) next =
        first-next x y (bytes_less xs ys) k ∙ next ∙ along Equal (ap (nat_cmp x) (sym k) ∙ cmp-same x)
    by (inr (inr k)) next = first-above x y (bytes_less xs ys) k ∙ along Greater (cmp-greater x y k)

then-end : (r : Ordering) → ordering_then r Equal ≡ r
then-end Less = refl
then-end Equal = refl
then-end Greater = refl

-- texts with nothing after them
pub less_by_text : (r : Ordering) (p q : List ℕ) → Decided r p None q None → bytes_less p q ≡ is_lt r
less_by_text r p q h =
    bytes_less-order p q
    ∙ ap (λ l. is_lt (bytes_order l q)) (sym (append-nil p))
    ∙ ap (λ l. is_lt (bytes_order (p ++ []) l)) (sym (append-nil q))
    ∙ ap is_lt (h.0 [] [] ∙ then-end r)
