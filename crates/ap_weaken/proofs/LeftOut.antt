-- Literals that are left out one after another.
use Rattle.std.proofs.Common.{◌≡◌, suc, ◌+◌, ◌-◌, ◌≤◌, Bool, true, cond, List, [], ◌∷◌, ◌++◌, length, take, drop, get_or, take_all, refl, sym, ap, ◌∙◌, arith}
use Rattle.ap_term.specs.declared.term.Term.{Term}
use Rattle.ap_term.specs.declared.term.Clause.{Clause}
use Rattle.ap_kernel.specs.declared.reductions.Inference.{Inference}
use Rattle.ap_kernel.specs.Reductions.{others, to_one}
use Rattle.ap_weaken.specs.Irrelevance.{those_not}

taken : {A : Type 0} (xs zs : List A) → take (length xs) (xs ++ zs) ≡ xs
taken [] zs = refl
taken (x ∷ xs) zs = ap (λ l. x ∷ l) (taken xs zs)

dropped : {A : Type 0} (xs : List A) (t : A) (ys : List A) → drop (suc (length xs)) (xs ++ t ∷ ys) ≡ ys
dropped [] t ys = refl
dropped (x ∷ xs) t ys = dropped xs t ys

dropped_one : {A : Type 0} (xs : List A) (t : A) (ys : List A) → drop (length xs + 1) (xs ++ t ∷ ys) ≡ ys
dropped_one xs t ys = let e : length xs + 1 ≡ suc (length xs) = omega arith in ap (λ n. drop n (xs ++ t ∷ ys)) e ∙ dropped xs t ys

-- the element behind some others
pub others_there : {A : Type 0} (xs : List A) (t : A) (ys : List A) → others (length xs) (xs ++ t ∷ ys) ≡ xs ++ ys
others_there xs t ys = ap (λ l. l ++ drop (length xs + 1) (xs ++ t ∷ ys)) (taken xs (t ∷ ys)) ∙ ap (λ l. xs ++ l) (dropped_one xs t ys)

one_left_out : (test : Term → Bool) (t : Term) (ts : List Term) → test t ≡ true → those_not test (t ∷ ts) ≡ those_not test ts
one_left_out test t ts h = ap (λ b. cond b (those_not test ts) (t ∷ those_not test ts)) h

-- the first element and the others
first_and_rest : {A : Type 0} (xs : List A) (t : A) → 1 ≤ length xs → t ≡ get_or xs 0 t → xs ≡ t ∷ take (length xs - 1) (drop 1 xs)
first_and_rest [] t some is = absurd (omega arith)
first_and_rest (x ∷ xs) t some is =
    ap (λ z. z ∷ xs) (sym is) ∙ ap (λ l. t ∷ l) (sym (take_all (suc (length xs) - 1) xs (omega arith)))

-- what the clause becomes with the next literal dropped
pub next_dropped : (c : Clause) (test : Term → Bool) (kept lent left : List Term) (t : Term) (done next : Inference) → lent ≡ kept → 1 ≤ length left → t ≡ get_or left 0 t
    → done ≡ to_one c (kept ++ left) → next ≡ to_one done.from (others (length lent) (lent ++ left)) → test t ≡ true → kept ++ those_not test left ≡ those_not test c.0
    → (next ≡ to_one c (kept ++ take (length left - 1) (drop 1 left))) × (kept ++ those_not test (take (length left - 1) (drop 1 left)) ≡ those_not test c.0)
next_dropped c test kept lent left t done next same some is says made out whole = (
  made ∙ ap (λ l. to_one done.from (others (length l) (l ++ left))) same ∙ ap (λ (i : Inference). to_one i.from (others (length kept) (kept ++ left))) says ∙ ap (λ l. to_one c (others (length kept) (kept ++ l))) split ∙ ap (to_one c) (others_there kept t rest),
  ap (λ l. kept ++ l) (sym (ap (those_not test) split ∙ one_left_out test t rest out)) ∙ whole,
)
  where
    rest : List Term
    rest = take (length left - 1) (drop 1 left)

    split : left ≡ t ∷ rest
    split = first_and_rest left t some is
