-- The list of the free and claimed nodes, kept from its end: a node that goes, and one that gives way to its children.
use Rattle.std.proofs.Common.{◌≡◌, ◌≢◌, ℕ, zero, suc, ◌+◌, ◌-◌, ◌≤◌, ◌<◌, List, [], ◌∷◌, ◌++◌, length, get_or, take, drop, reverse, length-drop, length-append, refl, sym, ap, ap₂, subst, ◌∙◌, arith, append-nil, inl, inr}
use Rattle.std.proofs.lemmas.List.{reverse-append, reverse-reverse, take_all, drop_all, drop_more, append_assoc}
use Rattle.std.proofs.lemmas.Grind.{reverse_onto}
use Rattle.std.proofs.Math.Seq.{drop-append_seam, take-append_seam}
use borrow.Rule.Slice.PartMut.{mid_of, put_mid}
use Rattle.ap_list.specs.Lists.{Each}
use Rattle.ap_list.proofs.Eachs.{each_append}
use Rattle.ap_table.specs.Order.{numbers, replace}
use Rattle.ap_table.proofs.Ordering.{not_eq, eq_case}

pub each_reverse : {A : Type 0} (P : A → Type 0) (xs : List A) → Each P xs → Each P (reverse xs)
each_reverse P [] h = tt
each_reverse P (x ∷ xs) h = subst (Each P) (sym (reverse_onto xs x [])) (each_append P (reverse xs) (x ∷ []) (each_reverse P xs h.1) (h.0, tt))

-- one element more, from the end
pub each_down : (P : ℕ → Type 0) (xs : List ℕ) (at d : ℕ) → 0 < at → at ≤ length xs → P (get_or xs (at - 1) d) → Each P (drop at xs) → Each P (drop (at - 1) xs)
each_down P xs at d some within here rest =
    subst (Each P) (sym (drop_more xs (at - 1) d (omega arith)))
    (here, subst (λ (n : ℕ). Each P (drop n xs)) (let e : at ≡ at - 1 + 1 = omega arith in e) rest)

pub reverse_split : (xs ys : List ℕ) (k : ℕ) → reverse (xs ++ k ∷ ys) ≡ reverse ys ++ k ∷ reverse xs
reverse_split xs ys k =
    reverse-append xs (k ∷ ys)
    ∙ (ap (λ l. l ++ reverse xs) (reverse_onto ys k []) ∙ append_assoc (reverse ys) (k ∷ []) (reverse xs))

pub replace_none : (js : List ℕ) (k : ℕ) (zs : List ℕ) → Each (λ x. x ≢ k) js → js ≡ replace js k zs
unfolding replace
replace_none [] k zs h = refl
replace_none (j ∷ js) k zs h = rw (not_eq j k h.0) (ap (λ l. j ∷ l) (replace_none js k zs h.1))

pub replace_at : (xs ys zs : List ℕ) (k : ℕ) → Each (λ x. x ≢ k) xs → replace (xs ++ k ∷ ys) k zs ≡ xs ++ (zs ++ ys)
unfolding replace
replace_at [] ys zs k h = elim (eq_case k k) [ inl e ↦ rw e.0 refl | inr d ↦ absurd (d.1 refl) ]
replace_at (x ∷ xs) ys zs k h = rw (not_eq x k h.0) (ap (λ l. x ∷ l) (replace_at xs ys zs k h.1))

-- a node that isn't in the list
pub none_stands : (live : List ℕ) (k : ℕ) (zs : List ℕ) → Each (λ x. x ≢ k) live → reverse live ≡ replace (reverse live) k zs
none_stands live k zs h = replace_none (reverse live) k zs (each_reverse (λ x. x ≢ k) live h)

-- others in the place of a node
pub stands : (live xs ys zs : List ℕ) (k : ℕ) → live ≡ xs ++ k ∷ ys → Each (λ x. x ≢ k) ys → reverse (xs ++ (reverse zs ++ ys)) ≡ replace (reverse live) k zs
stands live xs ys zs k e h =
    reverse-append xs (reverse zs ++ ys)
    ∙ (ap (λ l. l ++ reverse xs) (reverse-append (reverse zs) ys ∙ ap (λ l. reverse ys ++ l) (reverse-reverse zs))
    ∙ (append_assoc (reverse ys) zs (reverse xs)
    ∙ (sym (replace_at (reverse ys) (reverse xs) zs k (each_reverse (λ x. x ≢ k) ys h))
    ∙ ap (λ l. replace l k zs) (sym (ap reverse e ∙ reverse_split xs ys k)))))

-- after a turn of what stands from a place on
pub turned : (a k n : ℕ) (xs ys : List ℕ) → length xs ≤ a + k → a ≤ length xs → ys ≡ drop n (mid_of a k xs) ++ take n (mid_of a k xs) → put_mid a k xs ys ≡ take a xs ++ (drop n (drop a xs) ++ take n (drop a xs))
turned a k n xs ys long within e =
    let l = length-drop a xs in
    let part : mid_of a k xs ≡ drop a xs = take_all k (drop a xs) (omega arith) in
    ap (λ l. take a xs ++ l)
    (ap₂ (λ u v. u ++ v) (e ∙ ap (λ l. drop n l ++ take n l) part) (drop_all k (drop a xs) (omega arith))
    ∙ append-nil (drop n (drop a xs) ++ take n (drop a xs)))

pub turned_parts : (xs ys zs : List ℕ) (a n : ℕ) → length xs ≡ a → length ys ≡ n
    → take a ((xs ++ ys) ++ zs) ++ (drop n (drop a ((xs ++ ys) ++ zs)) ++ take n (drop a ((xs ++ ys) ++ zs))) ≡ xs ++ (zs ++ ys)
turned_parts xs ys zs a n ea en =
    ap (λ l. take a l ++ (drop n (drop a l) ++ take n (drop a l))) (append_assoc xs ys zs)
    ∙ (ap (λ (i : ℕ). take i (xs ++ (ys ++ zs)) ++ (drop n (drop i (xs ++ (ys ++ zs))) ++ take n (drop i (xs ++ (ys ++ zs))))) (sym ea)
    ∙ (ap₂ (λ u v. u ++ (drop n v ++ take n v)) (take-append_seam xs (ys ++ zs)) (drop-append_seam xs (ys ++ zs))
    ∙ (ap (λ (i : ℕ). xs ++ (drop i (ys ++ zs) ++ take i (ys ++ zs))) (sym en)
    ∙ ap₂ (λ u v. xs ++ (u ++ v)) (drop-append_seam ys zs) (take-append_seam ys zs))))

numbers_last : (first i j : ℕ) → j ≡ i + 1 → numbers first j ≡ numbers first i ++ (first + i) ∷ []
numbers_last first i zero e = absurd (omega arith)
numbers_last first zero (suc zero) e = ap (λ (n : ℕ). n ∷ []) (let z : first ≡ first + 0 = omega arith in z)
numbers_last first zero (suc (suc j)) e = absurd (omega arith)
numbers_last first (suc i) (suc j) e =
    ap (λ l. first ∷ l)
    (numbers_last (first + 1) i j (omega arith)
    ∙ ap (λ (n : ℕ). numbers (first + 1) i ++ n ∷ []) (let z : first + 1 + i ≡ first + suc i = omega arith in z))

-- the last number first, and then the others
pub numbers_down : (first i : ℕ) (l : List ℕ) → 0 < i → (l ++ (first + (i - 1)) ∷ []) ++ reverse (numbers first (i - 1)) ≡ l ++ reverse (numbers first i)
numbers_down first i l some =
    append_assoc l ((first + (i - 1)) ∷ []) (reverse (numbers first (i - 1)))
    ∙ ap (λ r. l ++ r) (sym (ap reverse (numbers_last first (i - 1) i (omega arith)) ∙ reverse-append (numbers first (i - 1)) ((first + (i - 1)) ∷ [])))

-- the children of a node in its place
pub given_way : (live xs ys zs ps ts : List ℕ) (k at many len : ℕ) → live ≡ xs ++ k ∷ ys → Each (λ x. x ≢ k) ys → ps ≡ (xs ++ ys) ++ reverse zs → length xs ≡ at → length ys ≡ many
    → ts ≡ take at ps ++ (drop many (drop at ps) ++ take many (drop at ps)) → len ≡ length ps → reverse (take len (ts ++ drop (length ts) ps)) ≡ replace (reverse live) k zs
given_way live xs ys zs ps ts k at many len e others p ea en t el =
    let is : ts ≡ xs ++ (reverse zs ++ ys) = t ∙ (ap (λ l. take at l ++ (drop many (drop at l) ++ take many (drop at l))) p ∙ turned_parts xs ys (reverse zs) at many ea en) in
    let lp : length ps ≡ length ts =
    (let a = ap length p in let b = ap length is in
    let c = length-append (xs ++ ys) (reverse zs) in let d = length-append xs ys in let f = length-append xs (reverse zs ++ ys) in let g = length-append (reverse zs) ys in omega arith) in
    ap reverse
    (ap (λ l. take len (ts ++ l)) (drop_all (length ts) ps (omega arith))
    ∙ (ap (take len) (append-nil ts) ∙ (take_all len ts (omega arith) ∙ is)))
    ∙ stands live xs ys zs k e others
