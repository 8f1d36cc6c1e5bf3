-- A literal's part is closed under sharing, and is the least that is: so many rounds are enough.
use Rattle.std.proofs.Common.{◌≡◌, ℕ, zero, suc, ◌+◌, ◌<◌, ◌≤◌, Bool, true, false, cond, ◌&&◌, ◌||◌, List, [], ◌∷◌, ◌++◌, length, ◌⊎◌, inl, inr, refl, ap, sym, ◌∙◌, subst, append_assoc, append-nil, length-append, arith}
use Rattle.ap_list.specs.Lists.{AnyOf, is_among, is_within}
use Rattle.ap_value.specs.declared.symbol.Symbol.{Symbol}
use Rattle.ap_value.specs.Values.{symbol_eq}
use Rattle.ap_value.proofs.Equals.{symbol_eq-true, symbol_eq-same}
use Rattle.ap_term.specs.declared.term.Term.{Term}
use Rattle.ap_weaken.specs.Irrelevance.{vars_of, have_common, united, grown_by, grown, reached}
use Rattle.ap_weaken.specs.Laws.{Within, IsClosed, PartsAreClosed, PartsAreLeast}

abbrev Among : Symbol → List Symbol → Type 0
Among x xs = is_among symbol_eq x xs ≡ true

-- what is among some stays there when one is put behind them, and that one is there
among_more : (x y : Symbol) (xs : List Symbol) → Among x xs → Among x (xs ++ y ∷ [])
among_more x y [] h = cc
among_more x y (z ∷ zs) h = go (symbol_eq x z) (among_more x y zs) h
  where
    go : (b : Bool) → (Among x zs → Among x (zs ++ y ∷ [])) → (b || is_among symbol_eq x zs) ≡ true → (b || is_among symbol_eq x (zs ++ y ∷ [])) ≡ true
    go true later l = refl
    go false later l = later l

among_last : (y : Symbol) (xs : List Symbol) → Among y (xs ++ y ∷ [])
among_last y [] = ap (λ b. b || false) (symbol_eq-same y)
among_last y (z ∷ zs) = go (symbol_eq y z) (among_last y zs)
  where
    go : (b : Bool) → Among y (zs ++ y ∷ []) → (b || is_among symbol_eq y (zs ++ y ∷ [])) ≡ true
    go true l = refl
    go false l = l

-- what was there stays, what is added is there, and nothing else
united_left : (xs ys : List Symbol) → Within xs (united xs ys)
united_left xs [] x h = h
united_left xs (y ∷ ys) x h = united_left (cond (is_among symbol_eq y xs) xs (xs ++ y ∷ [])) ys x (go (is_among symbol_eq y xs))
  where
    go : (b : Bool) → Among x (cond b xs (xs ++ y ∷ []))
    go true = h
    go false = among_more x y xs h

united_right : (xs ys : List Symbol) → Within ys (united xs ys)
united_right xs [] x h = cc
united_right xs (y ∷ ys) x h = go (symbol_eq x y) refl (united_right (cond (is_among symbol_eq y xs) xs (xs ++ y ∷ [])) ys x) h
  where
    more : List Symbol
    more = cond (is_among symbol_eq y xs) xs (xs ++ y ∷ [])

    there : (b : Bool) → is_among symbol_eq y xs ≡ b → Among y (cond b xs (xs ++ y ∷ []))
    there true q = q
    there false q = among_last y xs

    go : (b : Bool) → symbol_eq x y ≡ b → (Among x ys → Among x (united more ys)) → (b || is_among symbol_eq x ys) ≡ true → Among x (united more ys)
    go true q later l = united_left more ys x (subst (λ z. Among z more) (sym (symbol_eq-true x y q)) (there (is_among symbol_eq y xs) refl))
    go false q later l = later l

tail_within : (y : Symbol) (ys zs : List Symbol) → Within (y ∷ ys) zs → Within ys zs
tail_within y ys zs s x l = s x (go (symbol_eq x y))
  where
    go : (b : Bool) → (b || is_among symbol_eq x ys) ≡ true
    go true = refl
    go false = l

head_within : (y : Symbol) (ys zs : List Symbol) → Within (y ∷ ys) zs → Among y zs
head_within y ys zs s = s y (ap (λ b. b || is_among symbol_eq y ys) (symbol_eq-same y))

among_parts : (x y : Symbol) (xs zs : List Symbol) → Within xs zs → Among y zs → Among x (xs ++ y ∷ []) → Among x zs
among_parts x y [] zs s at h = go (symbol_eq x y) refl h
  where
    go : (b : Bool) → symbol_eq x y ≡ b → (b || false) ≡ true → Among x zs
    go true q l = subst (λ z. Among z zs) (sym (symbol_eq-true x y q)) at
    go false q l = cc
among_parts x y (w ∷ ws) zs s at h = go (symbol_eq x w) refl (among_parts x y ws zs (tail_within w ws zs s) at) h
  where
    go : (b : Bool) → symbol_eq x w ≡ b → (Among x (ws ++ y ∷ []) → Among x zs) → (b || is_among symbol_eq x (ws ++ y ∷ [])) ≡ true → Among x zs
    go true q later l = s x (ap (λ b. b || is_among symbol_eq x ws) q)
    go false q later l = later l

united_least : (xs ys zs : List Symbol) → Within xs zs → Within ys zs → Within (united xs ys) zs
united_least xs [] zs p q = p
united_least xs (y ∷ ys) zs p q = united_least (cond (is_among symbol_eq y xs) xs (xs ++ y ∷ [])) ys zs (go (is_among symbol_eq y xs)) (tail_within y ys zs q)
  where
    go : (b : Bool) → Within (cond b xs (xs ++ y ∷ [])) zs
    go true = p
    go false = λ x h. among_parts x y xs zs p (head_within y ys zs q) h

united_same : (xs ys : List Symbol) → Within ys xs → united xs ys ≡ xs
united_same xs [] q = refl
united_same xs (y ∷ ys) q = ap (λ b. united (cond b xs (xs ++ y ∷ [])) ys) (head_within y ys xs q) ∙ united_same xs ys (tail_within y ys xs q)

-- sharing lasts
common_more : (xs zs ys : List Symbol) → Within xs zs → have_common xs ys ≡ true → have_common zs ys ≡ true
common_more xs zs [] s h = cc
common_more xs zs (y ∷ ys) s h = go (is_among symbol_eq y xs) refl (common_more xs zs ys s) h
  where
    either : (b : Bool) → have_common zs ys ≡ true → (b || have_common zs ys) ≡ true
    either true l = refl
    either false l = l

    go : (b : Bool) → is_among symbol_eq y xs ≡ b → (have_common xs ys ≡ true → have_common zs ys ≡ true) → (b || have_common xs ys) ≡ true → (is_among symbol_eq y zs || have_common zs ys) ≡ true
    go true q later l = ap (λ b. b || have_common zs ys) (s y q)
    go false q later l = either (is_among symbol_eq y zs) (later l)

grown_by_left : (xs : List Symbol) (u : Term) → Within xs (grown_by xs u)
grown_by_left xs u x h = go (have_common xs (vars_of u))
  where
    go : (b : Bool) → Among x (cond b (united xs (vars_of u)) xs)
    go true = united_left xs (vars_of u) x h
    go false = h

grown_left : (us : List Term) (xs : List Symbol) → Within xs (grown us xs)
grown_left [] xs x h = h
grown_left (u ∷ us) xs x h = grown_left us (grown_by xs u) x (grown_by_left xs u x h)

reached_left : (ts : List Term) (n : ℕ) (xs : List Symbol) → Within xs (reached ts n xs)
reached_left ts zero xs x h = h
reached_left ts (suc n) xs x h = reached_left ts n (grown ts xs) x (grown_left ts xs x h)

-- nothing is added that isn't in a closed list
grown_least : (us : List Term) (xs zs : List Symbol) → IsClosed us zs → Within xs zs → Within (grown us xs) zs
grown_least [] xs zs closed p = p
grown_least (u ∷ us) xs zs closed p = grown_least us (grown_by xs u) zs closed.1 (go (have_common xs (vars_of u)) refl)
  where
    go : (b : Bool) → have_common xs (vars_of u) ≡ b → Within (cond b (united xs (vars_of u)) xs) zs
    go true q = united_least xs (vars_of u) zs p (closed.0 (common_more xs zs (vars_of u) p q))
    go false q = p

reached_least : (ts : List Term) (n : ℕ) (xs zs : List Symbol) → IsClosed ts zs → Within xs zs → Within (reached ts n xs) zs
reached_least ts zero xs zs closed p = p
reached_least ts (suc n) xs zs closed p = reached_least ts n (grown ts xs) zs closed (grown_least ts xs zs closed p)

pub parts_are_least : PartsAreLeast
parts_are_least ts u xs closed p = reached_least ts (length ts) (vars_of u) xs closed p

-- a closed list stays as it is
grown_same : (us : List Term) (xs : List Symbol) → IsClosed us xs → grown us xs ≡ xs
grown_same [] xs closed = refl
grown_same (u ∷ us) xs closed = ap (grown us) (go (have_common xs (vars_of u)) refl) ∙ grown_same us xs closed.1
  where
    go : (b : Bool) → have_common xs (vars_of u) ≡ b → cond b (united xs (vars_of u)) xs ≡ xs
    go true q = united_same xs (vars_of u) (closed.0 q)
    go false q = refl

reached_same : (ts : List Term) (n : ℕ) (xs : List Symbol) → IsClosed ts xs → reached ts n xs ≡ xs
reached_same ts zero xs closed = refl
reached_same ts (suc n) xs closed = ap (reached ts n) (grown_same ts xs closed) ∙ reached_same ts n xs closed

-- a literal is taken in that shares a variable and has no other
abbrev is_in : List Symbol → Term → Bool
is_in xs u = have_common xs (vars_of u) && is_within symbol_eq (vars_of u) xs

abbrev count : List Symbol → List Term → ℕ
count xs [] = 0
count xs (u ∷ us) = cond (is_in xs u) 1 0 + count xs us

within_is : (xs ys : List Symbol) → Within xs ys → is_within symbol_eq xs ys ≡ true
within_is [] ys s = refl
within_is (x ∷ xs) ys s = ap (λ b. b && is_within symbol_eq xs ys) (head_within x xs ys s) ∙ within_is xs ys (tail_within x xs ys s)

is_within_each : (xs ys : List Symbol) → is_within symbol_eq xs ys ≡ true → Within xs ys
is_within_each [] ys h x l = cc
is_within_each (z ∷ zs) ys h x l = go (is_among symbol_eq z ys) refl h (λ r. is_within_each zs ys r x) (symbol_eq x z) refl l
  where
    go : (b : Bool) → is_among symbol_eq z ys ≡ b → (b && is_within symbol_eq zs ys) ≡ true → (is_within symbol_eq zs ys ≡ true → Among x zs → Among x ys)
        → (d : Bool) → symbol_eq x z ≡ d → (d || is_among symbol_eq x zs) ≡ true → Among x ys
    go true q r later true e l = subst (λ z. Among z ys) (sym (symbol_eq-true x z e)) q
    go true q r later false e l = later r l
    go false q r later d e l = cc

both_true : (a b : Bool) → (a && b) ≡ true → (a ≡ true) × (b ≡ true)
both_true true true h = (refl, refl)
both_true true false h = cc
both_true false b h = cc

in_more : (xs ys : List Symbol) (u : Term) → Within xs ys → is_in xs u ≡ true → is_in ys u ≡ true
in_more xs ys u s h =
    let (common, all) = both_true (have_common xs (vars_of u)) (is_within symbol_eq (vars_of u) xs) h in
    in_by ys u (common_more xs ys (vars_of u) s common) (λ x l. s x (is_within_each (vars_of u) xs all x l))
  where
    in_by : (ys : List Symbol) (u : Term) → have_common ys (vars_of u) ≡ true → Within (vars_of u) ys → is_in ys u ≡ true
    in_by ys u p q = ap (λ b. b && is_within symbol_eq (vars_of u) ys) p ∙ within_is (vars_of u) ys q

count_most : (xs : List Symbol) (us : List Term) → count xs us ≤ length us
count_most xs [] = omega arith
count_most xs (u ∷ us) = go (is_in xs u) (count_most xs us)
  where
    go : (b : Bool) → count xs us ≤ length us → cond b 1 0 + count xs us ≤ suc (length us)
    go true h = omega arith
    go false h = omega arith

count_more : (xs ys : List Symbol) (us : List Term) → Within xs ys → count xs us ≤ count ys us
count_more xs ys [] s = omega arith
count_more xs ys (u ∷ us) s = go (is_in xs u) (is_in ys u) (in_more xs ys u s) (count_more xs ys us s)
  where
    go : (a b : Bool) → (a ≡ true → b ≡ true) → count xs us ≤ count ys us → cond a 1 0 + count xs us ≤ cond b 1 0 + count ys us
    go true true i h = omega arith
    go true false i h = let no = i refl in cc
    go false true i h = omega arith
    go false false i h = omega arith

count_less : (xs ys : List Symbol) (us : List Term) (z : Term) → Within xs ys → AnyOf (λ u. u ≡ z) us → is_in xs z ≡ false → is_in ys z ≡ true → count xs us < count ys us
count_less xs ys [] z s at p q = absurd at
count_less xs ys (u ∷ us) z s (inl same) p q =
    let a : is_in xs u ≡ false = ap (is_in xs) same ∙ p in
    let b : is_in ys u ≡ true = ap (is_in ys) same ∙ q in
    let h = count_more xs ys us s in
    rw a (rw b (omega arith))
count_less xs ys (u ∷ us) z s (inr later) p q = go (is_in xs u) (is_in ys u) (in_more xs ys u s) (count_less xs ys us z s later p q)
  where
    go : (a b : Bool) → (a ≡ true → b ≡ true) → count xs us < count ys us → cond a 1 0 + count xs us < cond b 1 0 + count ys us
    go true true i h = omega arith
    go true false i h = let no = i refl in cc
    go false true i h = omega arith
    go false false i h = omega arith

-- some variables are closed, or some literal shares one and has others
record IsOpen (ts : List Term) (xs : List Symbol) : Type 0 where
  literal : Term
  there : AnyOf (λ u. u ≡ literal) ts
  shares : have_common xs (vars_of literal) ≡ true
  more : is_in xs literal ≡ false

decide : (ts : List Term) (xs : List Symbol) → IsClosed ts xs ⊎ IsOpen ts xs
decide [] xs = inl tt
decide (u ∷ us) xs = go (have_common xs (vars_of u)) refl (is_within symbol_eq (vars_of u) xs) refl (decide us xs)
  where
    later : (have_common xs (vars_of u) ≡ true → Within (vars_of u) xs) → IsClosed us xs ⊎ IsOpen us xs → IsClosed (u ∷ us) xs ⊎ IsOpen (u ∷ us) xs
    later h (inl c) = inl (h, c)
    later h (inr o) = inr (record { literal = o.literal; there = inr o.there; shares = o.shares; more = o.more })

    go : (a : Bool) → have_common xs (vars_of u) ≡ a → (b : Bool) → is_within symbol_eq (vars_of u) xs ≡ b → IsClosed us xs ⊎ IsOpen us xs → IsClosed (u ∷ us) xs ⊎ IsOpen (u ∷ us) xs
    go false p b q l = later (λ e. cc) l
    go true p true q l = later (λ e. is_within_each (vars_of u) xs q) l
    go true p false q l = inr (record { literal = u; there = inl refl; shares = p; more = ap (λ b. b && is_within symbol_eq (vars_of u) xs) p ∙ q })

-- a round takes such a literal in
grown_takes : (us : List Term) (xs : List Symbol) (z : Term) → AnyOf (λ u. u ≡ z) us → have_common xs (vars_of z) ≡ true → Within (vars_of z) (grown us xs)
grown_takes [] xs z at h = absurd at
grown_takes (u ∷ us) xs z (inl same) h =
    let one : grown_by xs u ≡ united xs (vars_of z) = ap (grown_by xs) same ∙ ap (λ b. cond b (united xs (vars_of z)) xs) h in
    λ x l. grown_left us (grown_by xs u) x (subst (λ ys. Among x ys) (sym one) (united_right xs (vars_of z) x l))
grown_takes (u ∷ us) xs z (inr later) h = grown_takes us (grown_by xs u) z later (common_more xs (grown_by xs u) (vars_of z) (grown_by_left xs u) h)

grown_counts : (ts : List Term) (xs : List Symbol) → IsOpen ts xs → count xs ts < count (grown ts xs) ts
grown_counts ts xs o = count_less xs (grown ts xs) ts o.literal (grown_left ts xs) o.there o.more
    (ap (λ b. b && is_within symbol_eq (vars_of o.literal) (grown ts xs)) (common_more xs (grown ts xs) (vars_of o.literal) (grown_left ts xs) o.shares)
    ∙ within_is (vars_of o.literal) (grown ts xs) (grown_takes ts xs o.literal o.there o.shares))

reached_closed : (ts : List Term) (n : ℕ) (xs : List Symbol) → length ts ≤ count xs ts + n → IsClosed ts (reached ts n xs)
reached_closed ts zero xs enough = go (decide ts xs)
  where
    go : IsClosed ts xs ⊎ IsOpen ts xs → IsClosed ts xs
    go (inl c) = c
    go (inr o) = let a = grown_counts ts xs o in let b = count_most (grown ts xs) ts in absurd (omega arith)
reached_closed ts (suc n) xs enough = go (reached_closed ts n (grown ts xs)) (decide ts xs)
  where
    go : (length ts ≤ count (grown ts xs) ts + n → IsClosed ts (reached ts n (grown ts xs))) → IsClosed ts xs ⊎ IsOpen ts xs → IsClosed ts (reached ts n (grown ts xs))
    go later (inl c) = subst (IsClosed ts) (sym (reached_same ts (suc n) xs c)) c
    go later (inr o) = let a = grown_counts ts xs o in later (omega arith)

pub parts_are_closed : PartsAreClosed
parts_are_closed ts u = (reached_closed ts (length ts) (vars_of u) (omega arith), reached_left ts (length ts) (vars_of u))

-- what a round adds stands behind the others; where it adds nothing, further rounds don't either
united_adds : (xs ys : List Symbol) → (zs : List Symbol) × (united xs ys ≡ xs ++ zs)
united_adds xs [] = ([], sym (append-nil xs))
united_adds xs (y ∷ ys) = go (is_among symbol_eq y xs) (united_adds xs ys) (united_adds (xs ++ y ∷ []) ys)
  where
    go : (b : Bool) → ((zs : List Symbol) × (united xs ys ≡ xs ++ zs)) → ((zs : List Symbol) × (united (xs ++ y ∷ []) ys ≡ (xs ++ y ∷ []) ++ zs))
        → (zs : List Symbol) × (united (cond b xs (xs ++ y ∷ [])) ys ≡ xs ++ zs)
    go true p q = p
    go false p q = (y ∷ q.0, q.1 ∙ append_assoc xs (y ∷ []) q.0)

grown_by_adds : (xs : List Symbol) (u : Term) → (zs : List Symbol) × (grown_by xs u ≡ xs ++ zs)
grown_by_adds xs u = go (have_common xs (vars_of u))
  where
    go : (b : Bool) → (zs : List Symbol) × (cond b (united xs (vars_of u)) xs ≡ xs ++ zs)
    go true = united_adds xs (vars_of u)
    go false = ([], sym (append-nil xs))

grown_adds : (us : List Term) (xs : List Symbol) → (zs : List Symbol) × (grown us xs ≡ xs ++ zs)
grown_adds [] xs = ([], sym (append-nil xs))
grown_adds (u ∷ us) xs =
    let (ys, one) = grown_by_adds xs u in
    let (zs, rest) = grown_adds us (grown_by xs u) in
    (ys ++ zs, rest ∙ ap (λ l. l ++ zs) one ∙ append_assoc xs ys zs)

none_added : (us : List Term) (xs : List Symbol) → length (grown us xs) ≡ length xs → grown us xs ≡ xs
none_added us xs h = let (zs, adds) = grown_adds us xs in go zs adds (sym (ap length adds) ∙ h)
  where
    go : (zs : List Symbol) → grown us xs ≡ xs ++ zs → length (xs ++ zs) ≡ length xs → grown us xs ≡ xs
    go [] q l = q ∙ append-nil xs
    go (z ∷ zs) q l = let e = length-append xs (z ∷ zs) in absurd (omega arith)

round_stays : (ts : List Term) (n : ℕ) (xs : List Symbol) → grown ts xs ≡ xs → reached ts n xs ≡ xs
round_stays ts zero xs h = refl
round_stays ts (suc n) xs h = ap (reached ts n) h ∙ round_stays ts n xs h

-- so the rounds may end early
pub ends_early : (ts : List Term) (n : ℕ) (xs ys part : List Symbol) → reached ts n xs ≡ part → ys ≡ grown ts xs → length ys ≡ length xs → ys ≡ part
ends_early ts n xs ys part h is same =
    let stays : grown ts xs ≡ xs = none_added ts xs (sym (ap length is) ∙ same) in
    is ∙ stays ∙ sym (round_stays ts n xs stays) ∙ h
