-- The order of terms is a strict order, and total on terms that print differently.
use Rattle.std.proofs.Common.{◌≡◌, ℕ, ◌<◌, ◌⊎◌, inl, inr, Bool, true, false, List, [], ◌∷◌, refl, sym, ◌∙◌, arith}
use Rattle.std.proofs.lemmas.Bool.Decides.{nat_tests}
use Rattle.ap_term.specs.declared.term.Term.{Term}
use Rattle.ap_term.specs.Printed.{term_text}
use Rattle.ap_term.specs.Order.{number_first, bytes_less, variables_in, functions_in, constants_in, term_less}

-- no number stands before itself
first-same : (m : ℕ) (b : Bool) → number_first m m b ≡ true → b ≡ true
first-same m true h = refl
first-same m false h = absurd (grind (arith, nat_tests))

-- neither comes first: the numbers are equal, and so neither comes first by the next test
first-neither : (m n : ℕ) (b c : Bool) → number_first m n b ≡ false → number_first n m c ≡ false → (m ≡ n) × ((b ≡ false) × (c ≡ false))
first-neither m n b c h k = (equal, (next m n b equal h, next n m c (sym equal) k))
  where
    equal : m ≡ n
    equal = grind (arith, nat_tests)

    next : (i j : ℕ) (d : Bool) → i ≡ j → number_first i j d ≡ false → d ≡ false
    next i j true e f = absurd (grind (arith, nat_tests))
    next i j false e f = refl

first-true : (m n : ℕ) (b : Bool) → number_first m n b ≡ true → (m < n) ⊎ ((m ≡ n) × (b ≡ true))
first-true m n b h = grind (arith, nat_tests)

first-below : (m n : ℕ) (b : Bool) → m < n → number_first m n b ≡ true
first-below m n b h = grind (arith, nat_tests)

first-equal : (m n : ℕ) (b : Bool) → m ≡ n → b ≡ true → number_first m n b ≡ true
first-equal m n b e h = grind (arith, nat_tests)

first-transitive : (m n k : ℕ) (b c d : Bool) → (b ≡ true → c ≡ true → d ≡ true) → number_first m n b ≡ true → number_first n k c ≡ true → number_first m k d ≡ true
first-transitive m n k b c d next h g = by (first-true m n b h) (first-true n k c g)
  where
    by : (m < n) ⊎ ((m ≡ n) × (b ≡ true)) → (n < k) ⊎ ((n ≡ k) × (c ≡ true)) → number_first m k d ≡ true
    by (inl p) (inl q) = first-below m k d (omega arith)
    by (inl p) (inr q) = first-below m k d (omega (arith, q.0))
    by (inr p) (inl q) = first-below m k d (omega (arith, p.0))
    by (inr p) (inr q) = first-equal m k d (p.0 ∙ q.0) (next p.1 q.1)

bytes-same : (xs : List ℕ) → bytes_less xs xs ≡ true → ⊥
bytes-same [] h = cc
bytes-same (x ∷ xs) h = bytes-same xs (first-same x (bytes_less xs xs) h)

bytes-neither : (xs ys : List ℕ) → bytes_less xs ys ≡ false → bytes_less ys xs ≡ false → xs ≡ ys
bytes-neither [] [] h k = refl
bytes-neither [] (y ∷ ys) h k = absurd (cc)
bytes-neither (x ∷ xs) [] h k = absurd (cc)
bytes-neither (x ∷ xs) (y ∷ ys) h k =
    let parts = first-neither x y (bytes_less xs ys) (bytes_less ys xs) h k in
    let heads : x ≡ y = parts.0 in
    let tails : xs ≡ ys = bytes-neither xs ys parts.1.0 parts.1.1 in
    cc

bytes-transitive : (xs ys zs : List ℕ) → bytes_less xs ys ≡ true → bytes_less ys zs ≡ true → bytes_less xs zs ≡ true
bytes-transitive xs [] zs h k = absurd (cc)
bytes-transitive xs (y ∷ ys) [] h k = absurd (cc)
bytes-transitive [] (y ∷ ys) (z ∷ zs) h k = refl
bytes-transitive (x ∷ xs) (y ∷ ys) (z ∷ zs) h k =
    first-transitive x y z (bytes_less xs ys) (bytes_less ys zs) (bytes_less xs zs) (bytes-transitive xs ys zs) h k

pub less-same : (a : Term) → term_less a a ≡ true → ⊥
unfolding term_less
less-same a h =
    bytes-same (term_text a)
    (first-same (constants_in a) _ (first-same (functions_in a) _ (first-same (variables_in a) _ h)))

pub less-neither : (a b : Term) → term_less a b ≡ false → term_less b a ≡ false → term_text a ≡ term_text b
unfolding term_less
less-neither a b h k =
    let variables = first-neither (variables_in a) (variables_in b) _ _ h k in
    let functions = first-neither (functions_in a) (functions_in b) _ _ variables.1.0 variables.1.1 in
    let constants = first-neither (constants_in a) (constants_in b) _ _ functions.1.0 functions.1.1 in
    bytes-neither (term_text a) (term_text b) constants.1.0 constants.1.1

pub less-transitive : (a b c : Term) → term_less a b ≡ true → term_less b c ≡ true → term_less a c ≡ true
unfolding term_less
less-transitive a b c =
    first-transitive (variables_in a) (variables_in b) (variables_in c) _ _ _
    (first-transitive (functions_in a) (functions_in b) (functions_in c) _ _ _
    (first-transitive (constants_in a) (constants_in b) (constants_in c) _ _ _
    (bytes-transitive (term_text a) (term_text b) (term_text c))))
