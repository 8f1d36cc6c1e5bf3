-- Lists that are kept as far as they have at most 4,096 nodes, one element after another.
use Rattle.std.proofs.Common.{◌≡◌, ℕ, ◌+◌, ◌<◌, ◌≤◌, Bool, true, false, cond, nat_le, List, [], ◌∷◌, ◌++◌, length, drop, Option, Some, None, Ok, Err, IfSome, refl, sym, ap, ◌∙◌, append_assoc, arith}
use Rattle.std.proofs.lemmas.Bool.Decides.{nat_tests}
use Rattle.std.proofs.lemmas.List.{append-nil, drop_all}
use Rattle.ap_translate.specs.Answers.{Refusal, Answer, ◌>>=◌, each}
use Rattle.ap_translate.specs.Sizes.{small_by, total, few_by, more_by, capped}

-- what is kept, before more
abbrev pub put : {A : Type 0} → (A → ℕ) → Option (List A) → List A → Option (List A)
put weight None ys = None
put weight (Some xs) ys = few_by weight (xs ++ ys)

abbrev pub onto : {A : Type 0} → (A → ℕ) → Option (List A) → Answer (List A) → Answer (Option (List A))
onto weight o (Ok ys) = Ok (put weight o ys)
onto weight o (Err e) = Err e

pub past : (n : ℕ) → nat_le n 4096 ≡ false → 4096 < n
past n h = grind (arith, nat_tests)

module _ {A : Type 0} (weight : A → ℕ) where
  pub total_more : (xs ys : List A) → total weight (xs ++ ys) ≡ total weight xs + total weight ys
  total_more [] ys = omega arith
  total_more (x ∷ xs) ys = omega (arith, total_more xs ys)

  pub few_none : (xs : List A) → 4096 < total weight xs → few_by weight xs ≡ None
  few_none xs h = grind (arith, nat_tests)

  pub few_some : (xs : List A) → total weight xs ≤ 4096 → few_by weight xs ≡ Some xs
  few_some xs h = grind (arith, nat_tests)

  -- one more than is kept already
  pub full : (xs : List A) (x : A) (n : ℕ) → n ≡ total weight xs → 4096 < n + weight x → None ≡ few_by weight (xs ++ x ∷ [])
  full xs x n is h = let e = total_more xs (x ∷ []) in sym (few_none (xs ++ x ∷ []) (omega arith))

  pub pushed : (xs after : List A) (x : A) (n m : ℕ) → n ≡ total weight xs → m ≡ n + weight x → m ≤ 4096 → after ≡ xs ++ x ∷ [] → Some after ≡ few_by weight (xs ++ x ∷ [])
  pushed xs after x n m is more low same = let e = total_more xs (x ∷ []) in ap Some same ∙ sym (few_some (xs ++ x ∷ []) (omega arith))

  pub counted : (xs after : List A) (x : A) (n m : ℕ) → n ≡ total weight xs → m ≡ n + weight x → after ≡ xs ++ x ∷ [] → m ≡ total weight after
  counted xs after x n m is more same = let e = total_more xs (x ∷ []) in let k : total weight after ≡ total weight (xs ++ x ∷ []) = ap (total weight) same in omega arith

module _ {A : Type 0} (size weight : A → ℕ) (light : (a : A) → size a ≤ weight a) where
  -- what is kept of one element and more
  kept : (xs : List A) (x : A) (ys : List A) → put weight (more_by weight (Some xs) (small_by size x)) ys ≡ few_by weight (xs ++ x ∷ ys)
  kept xs x ys = by_size (nat_le (size x) 4096) refl
    where
      whole : total weight (xs ++ x ∷ ys) ≡ total weight xs + (weight x + total weight ys)
      whole = total_more weight xs (x ∷ ys)

      front : total weight (xs ++ x ∷ []) ≡ total weight xs + (weight x + 0)
      front = total_more weight xs (x ∷ [])

      by_total : (b : Bool) → nat_le (total weight (xs ++ x ∷ [])) 4096 ≡ b → put weight (few_by weight (xs ++ x ∷ [])) ys ≡ few_by weight (xs ++ x ∷ ys)
      by_total true h = ap (λ b. put weight (cond b (Some (xs ++ x ∷ [])) None) ys) h ∙ ap (few_by weight) (append_assoc xs (x ∷ []) ys)
      by_total false h =
          let over = past (total weight (xs ++ x ∷ [])) h in
          ap (λ b. put weight (cond b (Some (xs ++ x ∷ [])) None) ys) h ∙ sym (few_none weight (xs ++ x ∷ ys) (omega (arith, whole, front, over)))

      by_size : (b : Bool) → nat_le (size x) 4096 ≡ b → put weight (more_by weight (Some xs) (small_by size x)) ys ≡ few_by weight (xs ++ x ∷ ys)
      by_size true h = ap (λ b. put weight (more_by weight (Some xs) (cond b (Some x) None)) ys) h ∙ by_total (nat_le (total weight (xs ++ x ∷ [])) 4096) refl
      by_size false h =
          let over = past (size x) h in
          ap (λ b. put weight (more_by weight (Some xs) (cond b (Some x) None)) ys) h
          ∙ sym (few_none weight (xs ++ x ∷ ys) (omega (arith, whole, over, light x)))

  moved : (out : Option (List A)) (x : A) (r : Answer (List A)) → onto weight (more_by weight out (small_by size x)) r ≡ onto weight out (r >>= λ ys. Ok (x ∷ ys))
  moved out x (Err e) = refl
  moved None x (Ok ys) = refl
  moved (Some xs) x (Ok ys) = ap Ok (kept xs x ys)

  module _ {F : Type 0} (g : F → Answer A) (items : List F) (i : ℕ) (f : F) (out : Option (List A)) (whole : Answer (Option (List A))) (here : drop i items ≡ f ∷ drop (i + 1) items)
      (told : onto weight out (each g (drop i items)) ≡ whole) where
    first : onto weight out (each g (f ∷ drop (i + 1) items)) ≡ whole
    first = ap (λ fs. onto weight out (each g fs)) (sym here) ∙ told

    -- one turn of a loop, and its end at a refusal
    pub next : (after : Option (List A)) (o : Option A) → capped (small_by size) (g f) ≡ Ok o → after ≡ more_by weight out o
        → onto weight after (each g (drop (i + 1) items)) ≡ whole
    next after o read same = go (g f) refl read
      where
        go : (r : Answer A) → g f ≡ r → capped (small_by size) r ≡ Ok o → onto weight after (each g (drop (i + 1) items)) ≡ whole
        go (Err e) is k = cc
        go (Ok x) is k =
            let s : small_by size x ≡ o = cc in
            ap (λ a. onto weight a (each g (drop (i + 1) items))) (same ∙ ap (more_by weight out) (sym s)) ∙ moved out x (each g (drop (i + 1) items))
            ∙ ap (λ r. onto weight out (r >>= λ y. each g (drop (i + 1) items) >>= λ ys. Ok (y ∷ ys))) (sym is) ∙ first

    pub next_fails : (e : Refusal) → capped (small_by size) (g f) ≡ Err e → whole ≡ Err e
    next_fails e read = go (g f) refl read
      where
        go : (r : Answer A) → g f ≡ r → capped (small_by size) r ≡ Err e → whole ≡ Err e
        go (Ok x) is k = cc
        go (Err q) is k =
            let s : q ≡ e = cc in
            sym (ap (λ r. onto weight out (r >>= λ y. each g (drop (i + 1) items) >>= λ ys. Ok (y ∷ ys))) (sym is) ∙ first) ∙ ap Err s

-- at the end all are kept
pub ended : {F A : Type 0} (weight : A → ℕ) (g : F → Answer A) (items : List F) (i : ℕ) (out : Option (List A)) (whole : Answer (Option (List A))) → length items ≤ i
    → onto weight out (each g (drop i items)) ≡ whole → IfSome out (λ xs. total weight xs ≤ 4096) → whole ≡ Ok out
ended weight g items i None whole past told low = sym (ap (λ fs. onto weight None (each g fs)) (sym (drop_all i items past)) ∙ told)
ended weight g items i (Some xs) whole past told low =
    sym (ap (λ fs. onto weight (Some xs) (each g fs)) (sym (drop_all i items past)) ∙ told)
    ∙ ap (λ ys. Ok (few_by weight ys)) (append-nil xs) ∙ ap Ok (few_some weight xs low)

-- at the start none are
pub begun : {A : Type 0} (weight : A → ℕ) (r : Answer (List A)) → onto weight (Some []) r ≡ capped (few_by weight) r
begun weight (Ok ys) = refl
begun weight (Err e) = refl
