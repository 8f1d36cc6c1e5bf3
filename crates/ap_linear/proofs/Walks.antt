-- The walks of the search: what is done, and what is left to do.
use Rattle.std.proofs.Common.{◌≡◌, ℕ, zero, suc, ◌+◌, ◌*◌, ◌/◌, ◌%◌, ◌<◌, ◌≤◌, ℤ, Bool, true, false, cond, List, [], ◌∷◌, ◌++◌, ◌-◌, map, take, drop, length, get_or, Option, Some, None, Result, Ok, Err, IfOk, IfSome, refl, ap, sym, ◌∙◌, arith}
use Rattle.std.proofs.Math.Seq.{take-suc, take-length}
use Rattle.std.proofs.lemmas.List.{append_assoc, append-nil, take-append-le}
use Rattle.std.proofs.lemmas.Nat.Gcd.{IsGcd-from_mod, same_from_IsGcd}
use Rattle.std.proofs.Math.Nat.{div-mul_cancel}
use Rattle.ap_term.specs.declared.term.Term.{Term}
use Rattle.ap_term.specs.Equal.{term_eq}
use Rattle.ap_term.specs.Order.{term_less}
use Rattle.ap_poly.specs.Polynomials.{Parts, Polynomial, and_then}
use Rattle.ap_poly.specs.Elimination.{Row, behind, rows_of, gcd, multiplier, mixed, with_atom, with_atoms, atoms_of, eliminated, left_after, lin}
use Rattle.ap_poly.proofs.Divisors.{gcd_is}
use Rattle.ap_poly.specs.Holding.{IsCertificate}
use Rattle.ap_poly.proofs.Certified.{lin_certifies}
use Rattle.ap_linear.specs.Steps.{zeros, unit, mix, is_placed}

-- a row behind so many polynomials that don't stand in it
abbrev pub shifted : ℕ → List Row → List Row
shifted n [] = []
shifted n (w ∷ ws) = record { poly = w.poly; by = zeros n ++ w.by } ∷ shifted n ws

pub shifted-none : (ws : List Row) → shifted 0 ws ≡ ws
shifted-none [] = refl
shifted-none (w ∷ ws) = ap (λ vs. w ∷ vs) (shifted-none ws)

zeros-past : (n : ℕ) (xs : List ℕ) → zeros n ++ 0 ∷ xs ≡ 0 ∷ (zeros n ++ xs)
zeros-past zero xs = refl
zeros-past (suc n) xs = ap (λ ys. 0 ∷ ys) (zeros-past n xs)

pub zeros-more : (by : List ℕ) (n : ℕ) → (by ++ 0 ∷ []) ++ zeros n ≡ by ++ zeros (suc n)
zeros-more by n = append_assoc by (0 ∷ []) (zeros n)

none_of : (ps : List Polynomial) → map (λ q. 0) ps ≡ zeros (length ps)
none_of [] = refl
none_of (p ∷ ps) = ap (λ ns. 0 ∷ ns) (none_of ps)

shifted-behind : (n : ℕ) (ws : List Row) → shifted n (map behind ws) ≡ shifted (suc n) ws
shifted-behind n [] = refl
shifted-behind n (w ∷ ws) =
    ap (λ (by : List ℕ). record { poly = w.poly; by = by } ∷ shifted n (map behind ws)) (zeros-past n w.by)
    ∙ ap (λ vs. record { poly = w.poly; by = zeros (suc n) ++ w.by } ∷ vs) (shifted-behind n ws)

-- the first row of those behind n places
pub rows-turn : (rows : List Row) (n : ℕ) (p : Polynomial) (ps : List Polynomial)
    → (rows ++ record { poly = p; by = unit n (length ps) } ∷ []) ++ shifted (suc n) (rows_of ps) ≡ rows ++ shifted n (rows_of (p ∷ ps))
rows-turn rows n p ps =
    append_assoc rows (record { poly = p; by = unit n (length ps) } ∷ []) (shifted (suc n) (rows_of ps))
    ∙ ap (λ ws. rows ++ record { poly = p; by = unit n (length ps) } ∷ ws) (sym (shifted-behind n (rows_of ps)))
    ∙ ap (λ (by : List ℕ). rows ++ record { poly = p; by = zeros n ++ 1 ∷ by } ∷ shifted n (map behind (rows_of ps))) (sym (none_of ps))

-- a step of Euclid's
pub gcd-turn : (m n : ℕ) → gcd n (m % n) ≡ gcd m n
gcd-turn m n = same_from_IsGcd m n (gcd n (m % n)) (gcd m n) (IsGcd-from_mod m n (gcd n (m % n)) (gcd_is n (m % n))) (gcd_is m n)

pub gcd-positive : (c d : ℕ) → 0 < c → 0 < gcd c d
gcd-positive c d h = go (gcd c d) (c / gcd c d) (div-mul_cancel (gcd c d) (gcd_is c d).0)
  where
    go : (g q : ℕ) → q * g ≡ c → 0 < g
    go zero q e = absurd (no q e)
      where
        no : (q : ℕ) → q * 0 ≡ c → ⊥
        no q e = omega (arith, h)
    go (suc g) q e = omega arith

-- the multipliers so far before those that are left
abbrev pub onto : List ℕ → Option (List ℕ) → Option (List ℕ)
onto xs None = None
onto xs (Some ys) = Some (xs ++ ys)

-- the same of any numbers
abbrev pub onto_all : {A : Type 0} → List A → Option (List A) → Option (List A)
onto_all xs None = None
onto_all xs (Some ys) = Some (xs ++ ys)

pub onto-nothing : (o : Option (List ℕ)) → onto [] o ≡ o
onto-nothing None = refl
onto-nothing (Some xs) = refl

pub mixed-turn : (by : List ℕ) (k x : ℕ) (xs : List ℕ) (l y : ℕ) (ys : List ℕ)
    → onto by (mixed k (x ∷ xs) l (y ∷ ys)) ≡ and_then (mix k x l y) (λ n. onto (by ++ n ∷ []) (mixed k xs l ys))
mixed-turn by k x xs l y ys = first (multiplier (k * x))
  where
    more : (n : ℕ) (r : Option (List ℕ)) → onto by (and_then r (λ cs. Some (n ∷ cs))) ≡ onto (by ++ n ∷ []) r
    more n None = refl
    more n (Some cs) = ap Some (sym (append_assoc by (n ∷ []) cs))

    third : (o : Option ℕ) → onto by (and_then o (λ c. and_then (mixed k xs l ys) (λ cs. Some (c ∷ cs)))) ≡ and_then o (λ n. onto (by ++ n ∷ []) (mixed k xs l ys))
    third None = refl
    third (Some c) = more c (mixed k xs l ys)

    second : (a : ℕ) (o : Option ℕ) → onto by (and_then o (λ b. and_then (multiplier (a + b)) (λ c. and_then (mixed k xs l ys) (λ cs. Some (c ∷ cs)))))
        ≡ and_then (and_then o (λ b. multiplier (a + b))) (λ n. onto (by ++ n ∷ []) (mixed k xs l ys))
    second a None = refl
    second a (Some b) = third (multiplier (a + b))

    first : (o : Option ℕ) → onto by (and_then o (λ a. and_then (multiplier (l * y)) (λ b. and_then (multiplier (a + b)) (λ c. and_then (mixed k xs l ys) (λ cs. Some (c ∷ cs))))))
        ≡ and_then (and_then o (λ a. and_then (multiplier (l * y)) (λ b. multiplier (a + b)))) (λ n. onto (by ++ n ∷ []) (mixed k xs l ys))
    first None = refl
    first (Some a) = second a (multiplier (l * y))

-- 64 rows that are there are all that is kept
pub take-full : {A : Type 0} (n : ℕ) (xs ys : List A) → n ≤ length xs → length xs ≤ n → take n (xs ++ ys) ≡ xs
take-full n xs ys h k = take-append-le n xs ys h ∙ ap (λ (m : ℕ). take m xs) same ∙ take-length xs
  where
    same : n ≡ length xs
    same = omega (arith, h, k)

pub take-few : {A : Type 0} (n : ℕ) (xs : List A) → length xs ≤ n → take n xs ≡ xs
take-few zero [] h = refl
take-few zero (x ∷ xs) h = absurd (no h)
  where
    no : suc (length xs) ≤ 0 → ⊥
    no k = omega arith
take-few (suc n) [] h = refl
take-few (suc n) (x ∷ xs) h = ap (λ ys. x ∷ ys) (take-few n xs (omega arith))

pub take-short : {A : Type 0} (n : ℕ) (xs : List A) → length (take n xs) ≤ n
take-short zero xs = omega arith
take-short (suc n) [] = omega arith
take-short (suc n) (x ∷ xs) = let k = take-short n xs in omega arith

-- what is kept before more is what is kept of both
pub take-onto : {A : Type 0} (n : ℕ) (xs ys : List A) → take n (take n xs ++ ys) ≡ take n (xs ++ ys)
take-onto zero xs ys = refl
take-onto (suc n) [] ys = refl
take-onto (suc n) (x ∷ xs) ys = ap (λ zs. x ∷ zs) (take-onto n xs ys)

-- an atom that is there adds nothing
pub placed-same : (t : Term) (us : List Term) → is_placed t us ≡ true → with_atom t us ≡ us
placed-same t [] h = cc
placed-same t (u ∷ us) h = go (term_eq t u) (term_less t u) (placed-same t us) h
  where
    go : (b c : Bool) → (is_placed t us ≡ true → with_atom t us ≡ us) → cond b true (cond c false (is_placed t us)) ≡ true → cond b (u ∷ us) (cond c (t ∷ u ∷ us) (u ∷ with_atom t us)) ≡ u ∷ us
    go true c next k = refl
    go false true next k = cc
    go false false next k = ap (λ vs. u ∷ vs) (next k)

-- of a list of atoms the last is eliminated first
left-last : (xs : List Term) (x : Term) (rs : List Row) → left_after (xs ++ x ∷ []) rs ≡ left_after xs (eliminated x rs)
left-last [] x rs = refl
left-last (y ∷ xs) x rs = ap (eliminated y) (left-last xs x rs)

pub left-turn : (xs : List Term) (rs : List Row) (i j : ℕ) (x : Term) (g : List Row) → i ≡ suc j → j < length xs → x ≡ get_or xs j x
    → left_after (take i xs) rs ≡ g → left_after (take j xs) (eliminated x rs) ≡ g
left-turn xs rs i j x g n h e k =
    sym (left-last (take j xs) x rs) ∙ ap (λ y. left_after (take j xs ++ y ∷ []) rs) e
    ∙ sym (ap (λ ys. left_after ys rs) (take-suc xs j x h)) ∙ ap (λ (m : ℕ). left_after (take m xs) rs) (sym n) ∙ k

atoms-last : (ps : Parts) (p : Term × ℤ) (us : List Term) → with_atoms (ps ++ p ∷ []) us ≡ with_atoms ps (with_atom p.0 us)
atoms-last [] p us = refl
atoms-last (q ∷ ps) p us = ap (with_atom q.0) (atoms-last ps p us)

pub atoms-turn : (ps : Parts) (us : List Term) (i j : ℕ) (p : Term × ℤ) (g : List Term) → i ≡ suc j → j < length ps → p ≡ get_or ps j p
    → with_atoms (take i ps) us ≡ g → with_atoms (take j ps) (with_atom p.0 us) ≡ g
atoms-turn ps us i j p g n h e k =
    sym (atoms-last (take j ps) p us) ∙ ap (λ q. with_atoms (take j ps ++ q ∷ []) us) e
    ∙ sym (ap (λ qs. with_atoms qs us) (take-suc ps j p h)) ∙ ap (λ (m : ℕ). with_atoms (take m ps) us) (sym n) ∙ k

-- the atoms of polynomials, added to some
abbrev pub atoms_onto : List Polynomial → List Term → List Term
atoms_onto [] us = us
atoms_onto (p ∷ ps) us = with_atoms p.parts (atoms_onto ps us)

pub atoms-all : (ps : List Polynomial) → atoms_onto ps [] ≡ atoms_of ps
atoms-all [] = refl
atoms-all (p ∷ ps) = ap (with_atoms p.parts) (atoms-all ps)

onto-last : (ps : List Polynomial) (p : Polynomial) (us : List Term) → atoms_onto (ps ++ p ∷ []) us ≡ atoms_onto ps (with_atoms p.parts us)
onto-last [] p us = refl
onto-last (q ∷ ps) p us = ap (with_atoms q.parts) (onto-last ps p us)

pub onto-turn : (ps : List Polynomial) (us : List Term) (i j : ℕ) (p : Polynomial) (g : List Term) → i ≡ suc j → j < length ps → p ≡ get_or ps j p
    → atoms_onto (take i ps) us ≡ g → atoms_onto (take j ps) (with_atoms p.parts us) ≡ g
onto-turn ps us i j p g n h e k =
    sym (onto-last (take j ps) p us) ∙ ap (λ q. atoms_onto (take j ps ++ q ∷ []) us) e
    ∙ sym (ap (λ qs. atoms_onto qs us) (take-suc ps j p h)) ∙ ap (λ (m : ℕ). atoms_onto (take m ps) us) (sym n) ∙ k

-- a list by its first and the rest, as a slice has them
pub rest-of : {A : Type 0} (left : List A) (p : A) → 1 ≤ length left → p ≡ get_or left 0 p → p ∷ take (length left - 1) (drop 1 left) ≡ left
rest-of [] p h e = absurd (no h)
  where
    no : 1 ≤ 0 → ⊥
    no k = omega arith
rest-of {A} (x ∷ xs) p h e = ap (λ y. y ∷ take (suc (length xs) - 1) xs) e ∙ ap (λ (n : ℕ). x ∷ take n xs) (one (length xs)) ∙ ap (λ ys. x ∷ ys) (take-length xs)
  where
    one : (n : ℕ) → suc n - 1 ≡ n
    one n = omega arith

-- nothing is left
pub none-left : {A : Type 0} (f : List A → List A) (out left g : List A) → f [] ≡ [] → length left < 1 → length out ≤ 64 → take 64 (out ++ f left) ≡ g → out ≡ g
none-left f out [] g e h k l = sym (take-few 64 out k) ∙ ap (take 64) (sym (append-nil out) ∙ ap (λ ys. out ++ ys) (sym e)) ∙ l
none-left f out (w ∷ ws) g e h k l = absurd (no (length ws) h)
  where
    no : (n : ℕ) → suc n < 1 → ⊥
    no n h = omega arith

-- no more is kept
pub all-kept : {A : Type 0} (out more g : List A) → 64 ≤ length out → length out ≤ 64 → take 64 (out ++ more) ≡ g → out ≡ g
all-kept out more g h k l = sym (take-full 64 out more h k) ∙ l

pub rows-next : (rows new : List Row) (n m : ℕ) (p : Polynomial) (ps left : List Polynomial) (g : List Row) → p ∷ ps ≡ left → m ≡ suc n
    → new ≡ rows ++ record { poly = p; by = unit n (length ps) } ∷ [] → rows ++ shifted n (rows_of left) ≡ g → new ++ shifted m (rows_of ps) ≡ g
rows-next rows new n m p ps left g whole next e l =
    ap (λ ws. ws ++ shifted m (rows_of ps)) e
    ∙ ap (λ (k : ℕ). (rows ++ record { poly = p; by = unit n (length ps) } ∷ []) ++ shifted k (rows_of ps)) next
    ∙ rows-turn rows n p ps ∙ ap (λ qs. rows ++ shifted n (rows_of qs)) whole ∙ l

-- what is answered is a certificate
pub certified : {E : Type 0} (r : Result (Option (List ℕ)) E) (ps : List Polynomial) → IfOk r (λ o. o ≡ lin ps) → IfOk r (λ o. IfSome o (λ by. IsCertificate ps by))
certified (Ok None) ps h = tt
certified (Ok (Some by)) ps h = lin_certifies ps by (sym h)
certified (Err e) ps h = h
