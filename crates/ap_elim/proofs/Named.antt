-- A name is always found: among one more number than there are variables, one makes a new name.
use Rattle.std.proofs.Common.{◌≡◌, ℕ, zero, suc, ◌+◌, ◌-◌, ◌<◌, ◌≤◌, ◌^◌, Bool, true, false, cond, ◌||◌, List, [], ◌∷◌, ◌++◌, map, length, Option, Some, None, decimal, ◌⊎◌, inl, inr, refl, ap, sym, ◌∙◌, subst, arith}
use Rattle.std.proofs.lemmas.Fmt.{decimal_injective}
use Rattle.ap_list.specs.Lists.{Each, AnyOf, in_turn, is_among}
use Rattle.ap_value.specs.declared.symbol.Symbol.{Symbol}
use Rattle.ap_value.specs.declared.value.Value.{Value}
use Rattle.ap_value.specs.Values.{symbol_eq}
use Rattle.ap_value.proofs.Equals.{symbol_eq-true}
use Rattle.ap_term.specs.declared.term.Term.{Term, Var, Quote, Call}
use Rattle.ap_term.specs.Terms.{vars_after}
use Rattle.ap_term.proofs.Induction.{term_ind, fold_var, fold_quote, fold_call}
use Rattle.ap_world.proofs.Written.{vars_var, vars_quote, vars_call}
use Rattle.ap_kernel.specs.Solving.{occurs_step, occurs, occurs_in}
use Rattle.ap_kernel.proofs.Reduced.{any_left, any_right}
use Rattle.ap_elim.specs.Naming.{vars_of, numbered, first_new, new_name}
use Rattle.ap_elim.specs.Laws.{NamesAreFound, NamesAreNew}

-- x is one of the symbols
abbrev In : Symbol → List Symbol → Type 0
In x xs = AnyOf (λ y. y ≡ x) xs

among_in : (x : Symbol) (xs : List Symbol) → is_among symbol_eq x xs ≡ true → In x xs
among_in x [] h = cc
among_in x (y ∷ ys) h = go (symbol_eq x y) refl (among_in x ys) h
  where
    go : (b : Bool) → symbol_eq x y ≡ b → (is_among symbol_eq x ys ≡ true → In x ys) → (b || is_among symbol_eq x ys) ≡ true → In x (y ∷ ys)
    go true q later l = inl (sym (symbol_eq-true x y q))
    go false q later l = inr (later l)

-- what occurs in a term, or stands already, is among its variables
abbrev Goal : Symbol → Term → Type 0
Goal x u = (seen : List Symbol) → In x seen ⊎ (occurs x u ≡ true) → In x (vars_after u seen)

listed_args : (x : Symbol) (ts : List Term) → Each (Goal x) ts → (seen : List Symbol) → In x seen ⊎ (occurs_in x ts ≡ true) → In x (in_turn (map vars_after ts) seen)
listed_args x [] es seen (inl h) = h
listed_args x [] es seen (inr h) = cc
listed_args x (t ∷ ts) es seen h = go (occurs x t) refl (listed_args x ts es.1 (vars_after t seen)) h
  where
    go : (b : Bool) → occurs x t ≡ b → (In x (vars_after t seen) ⊎ (occurs_in x ts ≡ true) → In x (in_turn (map vars_after ts) (vars_after t seen))) → In x seen ⊎ ((b || occurs_in x ts) ≡ true)
        → In x (in_turn (map vars_after ts) (vars_after t seen))
    go b q later (inl h) = later (inl (es.0 seen (inl h)))
    go true q later (inr h) = later (inl (es.0 seen (inr q)))
    go false q later (inr h) = later (inr h)

listed : (x : Symbol) (u : Term) → Goal x u
listed x = term_ind (Goal x)
    (λ y seen h. subst (In x) (sym (vars_var y seen)) (variable y seen (is_among symbol_eq y seen) refl h))
    (λ q seen h. subst (In x) (sym (vars_quote q seen)) (quoted q seen h))
    (λ f ts es seen h. subst (In x) (sym (vars_call f ts seen)) (listed_args x ts es seen (called f ts seen h)))
  where
    variable : (y : Symbol) (seen : List Symbol) (b : Bool) → is_among symbol_eq y seen ≡ b → In x seen ⊎ (occurs x (Var y) ≡ true) → In x (cond b seen (seen ++ y ∷ []))
    variable y seen true q (inl h) = h
    variable y seen true q (inr h) = subst (λ z. In z seen) (sym (symbol_eq-true x y (sym (fold_var (occurs_step x) y) ∙ h))) (among_in y seen q)
    variable y seen false q (inl h) = any_left (λ z. z ≡ x) seen (y ∷ []) h
    variable y seen false q (inr h) = any_right (λ z. z ≡ x) seen (y ∷ []) (inl (sym (symbol_eq-true x y (sym (fold_var (occurs_step x) y) ∙ h))))

    quoted : (q : Value) (seen : List Symbol) → In x seen ⊎ (occurs x (Quote q) ≡ true) → In x seen
    quoted q seen (inl h) = h
    quoted q seen (inr h) = let p = fold_quote (occurs_step x) q in cc

    called : (f : Symbol) (ts : List Term) (seen : List Symbol) → In x seen ⊎ (occurs x (Call f ts) ≡ true) → In x seen ⊎ (occurs_in x ts ≡ true)
    called f ts seen (inl h) = inl h
    called f ts seen (inr h) = inr (sym (fold_call (occurs_step x) f ts) ∙ h)

-- one of the symbols left out, the others stay
abbrev Without : List Symbol → Symbol → Type 0
Without xs x = (rest : List Symbol) × (length xs ≡ suc (length rest)) × ((y : Symbol) → (y ≡ x → ⊥) → In y xs → In y rest)

leave : (xs : List Symbol) (x : Symbol) → In x xs → Without xs x
leave [] x h = absurd h
leave (z ∷ zs) x (inl p) = (zs, refl, λ y n h. others y n h)
  where
    others : (y : Symbol) → (y ≡ x → ⊥) → In y (z ∷ zs) → In y zs
    others y n (inl q) = absurd (n (sym q ∙ p))
    others y n (inr h) = h
leave (z ∷ zs) x (inr h) = let r = leave zs x h in (z ∷ r.0, ap suc r.1, λ y n k. others r.0 r.2 y n k)
  where
    others : (rest : List Symbol) → ((y : Symbol) → (y ≡ x → ⊥) → In y zs → In y rest) → (y : Symbol) → (y ≡ x → ⊥) → In y (z ∷ zs) → In y (z ∷ rest)
    others rest k y n (inl q) = inl q
    others rest k y n (inr h) = inr (k y n h)

-- names with different numbers are different
cancel : (xs a b : List ℕ) → xs ++ a ≡ xs ++ b → a ≡ b
cancel [] a b h = h
cancel (x ∷ xs) a b h = let q : xs ++ a ≡ xs ++ b = cc in cancel xs a b q

apart : (stem : List ℕ) (j k : ℕ) → j < k → k < 2 ^ 64 → numbered stem k ≡ numbered stem j → ⊥
apart stem j k l s h =
    let same : k ≡ j = decimal_injective k j s (omega arith) (cancel stem (decimal k) (decimal j) (ap (λ (x : Symbol). x.name) h)) in
    absurd (omega arith)

-- each of so many numbers, from one on, makes one of the symbols
abbrev AllIn : List ℕ → List Symbol → ℕ → ℕ → Type 0
AllIn stem xs zero k = Unit {0}
AllIn stem xs (suc n) k = In (numbered stem k) xs × AllIn stem xs n (k + 1)

all_in_rest : (stem : List ℕ) (xs rest : List Symbol) (j : ℕ) → ((y : Symbol) → (y ≡ numbered stem j → ⊥) → In y xs → In y rest) → (n k : ℕ) → j < k → k + n < 2 ^ 64 → AllIn stem xs n k → AllIn stem rest n k
all_in_rest stem xs rest j move zero k l s h = tt
all_in_rest stem xs rest j move (suc n) k l s h =
    (move (numbered stem k) (apart stem j k l (omega arith)) h.0, all_in_rest stem xs rest j move n (k + 1) (omega arith) (omega arith) h.1)

pigeon : (stem : List ℕ) (n : ℕ) (xs : List Symbol) (k : ℕ) → k + n < 2 ^ 64 → AllIn stem xs n k → n ≤ length xs
pigeon stem zero xs k s h = omega arith
pigeon stem (suc n) xs k s h =
    let r = leave xs (numbered stem k) h.0 in
    let p : n ≤ length r.0 = pigeon stem n r.0 (k + 1) (omega arith) (all_in_rest stem xs r.0 k r.2 n (k + 1) (omega arith) (omega arith) h.1) in
    let q : length xs ≡ suc (length r.0) = r.1 in
    omega arith

-- one is found, or each makes a variable that occurs
found_or : (stem : List ℕ) (ts : List Term) (n k : ℕ) → ((a : Symbol) × (first_new stem ts n k ≡ Some a)) ⊎ AllIn stem (vars_of ts) n k
found_or stem ts zero k = inr tt
found_or stem ts (suc n) k = go (occurs_in (numbered stem k) ts) refl (found_or stem ts n (k + 1))
  where
    more : In (numbered stem k) (vars_of ts) → ((a : Symbol) × (first_new stem ts n (k + 1) ≡ Some a)) ⊎ AllIn stem (vars_of ts) n (k + 1)
        → ((a : Symbol) × (first_new stem ts n (k + 1) ≡ Some a)) ⊎ (In (numbered stem k) (vars_of ts) × AllIn stem (vars_of ts) n (k + 1))
    more h (inl f) = inl f
    more h (inr l) = inr (h, l)

    go : (b : Bool) → occurs_in (numbered stem k) ts ≡ b → ((a : Symbol) × (first_new stem ts n (k + 1) ≡ Some a)) ⊎ AllIn stem (vars_of ts) n (k + 1)
        → ((a : Symbol) × (cond b (first_new stem ts n (k + 1)) (Some (numbered stem k)) ≡ Some a)) ⊎ AllIn stem (vars_of ts) (suc n) k
    go false q later = inl (numbered stem k, refl)
    go true q later = more (listed_args (numbered stem k) ts (all ts) [] (inr q)) later
      where
        all : (us : List Term) → Each (Goal (numbered stem k)) us
        all [] = tt
        all (u ∷ us) = (listed (numbered stem k) u, all us)

pub names_are_found : NamesAreFound
names_are_found stem ts small = go (found_or stem ts (suc (length (vars_of ts))) 1)
  where
    go : ((a : Symbol) × (new_name stem ts ≡ Some a)) ⊎ AllIn stem (vars_of ts) (suc (length (vars_of ts))) 1 → (a : Symbol) × (new_name stem ts ≡ Some a)
    go (inl f) = f
    go (inr h) = let p : suc (length (vars_of ts)) ≤ length (vars_of ts) = pigeon stem (suc (length (vars_of ts))) (vars_of ts) 1 (omega arith) h in absurd (omega arith)

-- what is found is new
found_new : (stem : List ℕ) (ts : List Term) (n k : ℕ) (a : Symbol) → first_new stem ts n k ≡ Some a → occurs_in a ts ≡ false
found_new stem ts zero k a h = cc
found_new stem ts (suc n) k a h = go (occurs_in (numbered stem k) ts) refl (found_new stem ts n (k + 1) a) h
  where
    go : (b : Bool) → occurs_in (numbered stem k) ts ≡ b → (first_new stem ts n (k + 1) ≡ Some a → occurs_in a ts ≡ false) → cond b (first_new stem ts n (k + 1)) (Some (numbered stem k)) ≡ Some a → occurs_in a ts ≡ false
    go true q later l = later l
    go false q later l = let same : numbered stem k ≡ a = cc in subst (λ x. occurs_in x ts ≡ false) same q

pub new_is_new : NamesAreNew
new_is_new stem ts a h = found_new stem ts (suc (length (vars_of ts))) 1 a h

-- a number that is tried: the next one is, or this one is found
pub next_tried : (stem : List ℕ) (ts : List Term) (n k : ℕ) → 0 < n → occurs_in (numbered stem k) ts ≡ true → first_new stem ts n k ≡ first_new stem ts (n - 1) (k + 1)
next_tried stem ts n k h q =
    let one : n ≡ suc (n - 1) = omega arith in
    ap (λ m. first_new stem ts m k) one ∙ ap (λ b. cond b (first_new stem ts (n - 1) (k + 1)) (Some (numbered stem k))) q

pub this_found : (stem : List ℕ) (ts : List Term) (n k : ℕ) → 0 < n → occurs_in (numbered stem k) ts ≡ false → first_new stem ts n k ≡ Some (numbered stem k)
this_found stem ts n k h q =
    let one : n ≡ suc (n - 1) = omega arith in
    ap (λ m. first_new stem ts m k) one ∙ ap (λ b. cond b (first_new stem ts (n - 1) (k + 1)) (Some (numbered stem k))) q

-- so many numbers are enough
pub never_none : (stem : List ℕ) (ts : List Term) (n : ℕ) (xs : List Symbol) (o : Option Symbol) → xs ≡ vars_of ts → n ≡ length xs → n < 2 ^ 63 → o ≡ first_new stem ts (n + 1) 1 → o ≡ None → ⊥
never_none stem ts n xs o vs len small is none =
    let count : n ≡ length (vars_of ts) = len ∙ ap length vs in
    let (a, q) = names_are_found stem ts (subst (λ m. m < 2 ^ 63) count small) in
    let p : n + 1 ≡ suc (length (vars_of ts)) = omega arith in
    let e : first_new stem ts (n + 1) 1 ≡ Some a = ap (λ m. first_new stem ts m 1) p ∙ q in
    cc
