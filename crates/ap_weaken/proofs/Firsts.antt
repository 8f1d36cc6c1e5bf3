-- The first literal that can be used, and the first that it can be used in.
use Rattle.std.proofs.Common.{◌≡◌, ◌<◌, ◌≤◌, ◌+◌, ◌⊎◌, inl, inr, ℕ, zero, suc, Bool, true, false, true≢false, cond, length, Option, Some, None, is_some, slice_get, refl, ap, sym, ◌∙◌, subst, arith}
use Rattle.std.proofs.lemmas.Bool.{cases_lt}
use Rattle.std.proofs.lemmas.Option.{slice_get_within}
use Rattle.ap_term.specs.declared.term.Term.{Term}
use Rattle.ap_term.specs.declared.term.Clause.{Clause}
use Rattle.ap_world.specs.Shapes.{shape_of}
use Rattle.ap_kernel.specs.declared.reductions.Inference.{Inference}
use Rattle.ap_kernel.specs.Fertilising.{negated_sides, literal_fertilised, fertilised, fertilised_by, fertilise_made}
use Rattle.ap_kernel.specs.Splits.{and_then}
use Rattle.ap_weaken.specs.Fertilize.{first_number, can_use, used_in, is_usable, hypothesis, with_use, use_of}
use Rattle.ap_weaken.specs.Laws.{IsFirstUse, FirstUseIsTaken, FertilizeApplies}

-- the first number of which a test is true
first_found : (test : ℕ → Bool) (n k i : ℕ) → first_number test n k ≡ Some i → (test i ≡ true) × ((l : ℕ) → k ≤ l → l < i → test l ≡ false)
first_found test zero k i h = cc
first_found test (suc n) k i h = go (test k) refl (first_found test n (k + 1) i) h
  where
    go : (b : Bool) → test k ≡ b → (first_number test n (k + 1) ≡ Some i → (test i ≡ true) × ((l : ℕ) → k + 1 ≤ l → l < i → test l ≡ false))
        → cond b (Some k) (first_number test n (k + 1)) ≡ Some i → (test i ≡ true) × ((l : ℕ) → k ≤ l → l < i → test l ≡ false)
    go true q later m = let same : k ≡ i = cc in (subst (λ j. test j ≡ true) same q, λ l a b. absurd (omega arith))
    go false q later m = let r = later m in (r.0, λ l a b. below r.1 l a b (cases_lt k l))
      where
        below : ((l : ℕ) → k + 1 ≤ l → l < i → test l ≡ false) → (l : ℕ) → k ≤ l → l < i → (k < l) ⊎ (l ≤ k) → test l ≡ false
        below rest l a b (inl less) = rest l (omega arith) b
        below rest l a b (inr not_less) = let same : k ≡ l = omega arith in subst (λ j. test j ≡ false) same q

first_is : (test : ℕ → Bool) (n k j : ℕ) → k ≤ j → j < k + n → test j ≡ true → ((l : ℕ) → k ≤ l → l < j → test l ≡ false) → first_number test n k ≡ Some j
first_is test zero k j a b t f = absurd (omega arith)
first_is test (suc n) k j a b t f = go (cases_lt k j) (λ less. first_is test n (k + 1) j (omega arith) (omega arith) t (λ l c d. f l (omega arith) d))
  where
    go : (k < j) ⊎ (j ≤ k) → (k < j → first_number test n (k + 1) ≡ Some j) → cond (test k) (Some k) (first_number test n (k + 1)) ≡ Some j
    go (inl less) later = ap (λ c. cond c (Some k) (first_number test n (k + 1))) (f k (omega arith) less) ∙ later less
    go (inr not_less) later =
        let same : k ≡ j = omega arith in
        ap (λ c. cond c (Some k) (first_number test n (k + 1))) (ap test same ∙ t) ∙ ap Some same

first_some : (test : ℕ → Bool) (n k j : ℕ) → k ≤ j → j < k + n → test j ≡ true → (i : ℕ) × (first_number test n k ≡ Some i)
first_some test zero k j a b t = absurd (omega arith)
first_some test (suc n) k j a b t = go (test k) refl (cases_lt k j) (λ less. first_some test n (k + 1) j (omega arith) (omega arith) t)
  where
    go : (c : Bool) → test k ≡ c → (k < j) ⊎ (j ≤ k) → (k < j → (i : ℕ) × (first_number test n (k + 1) ≡ Some i)) → (i : ℕ) × (cond c (Some k) (first_number test n (k + 1)) ≡ Some i)
    go true e either later = (k, refl)
    go false e (inl less) later = later less
    go false e (inr not_less) later = let same : j ≡ k = omega arith in absurd (true≢false (sym t ∙ ap test same ∙ e))

-- places at which a literal can be used are places of literals
using_place : (c : Clause) (i j : ℕ) → can_use c i j ≡ true → i < length c.0
using_place c i j h = go (slice_get c.0 i) refl h
  where
    go : (o : Option Term) → slice_get c.0 i ≡ o → is_some (and_then (and_then o (λ u. negated_sides (shape_of u))) (fertilised_by c i j)) ≡ true → i < length c.0
    go None e k = cc
    go (Some u) e k = slice_get_within c.0 i u e

used_place : (c : Clause) (i j : ℕ) → can_use c i j ≡ true → j < length c.0
used_place c i j h = outer (and_then (slice_get c.0 i) (λ u. negated_sides (shape_of u))) h
  where
    inner : (p : Term × Term) (o : Option Term) → slice_get c.0 j ≡ o → is_some (and_then (and_then o (literal_fertilised p)) (λ u. Some (fertilised c i j u))) ≡ true → j < length c.0
    inner p None e k = cc
    inner p (Some u) e k = slice_get_within c.0 j u e

    outer : (o : Option (Term × Term)) → is_some (and_then o (fertilised_by c i j)) ≡ true → j < length c.0
    outer None k = cc
    outer (Some p) k = inner p (slice_get c.0 j) refl k

usable : (c : Clause) (i j : ℕ) → can_use c i j ≡ true → is_usable c i ≡ true
usable c i j h =
    let below = used_place c i j h in
    let (k, is) = first_some (can_use c i) (length c.0) 0 j (omega arith) (omega arith) h in
    ap is_some is

-- a literal that is usable can be used in one
use_there : (c : Clause) (i : ℕ) → is_usable c i ≡ true → (j : ℕ) × (used_in c i ≡ Some j) × (can_use c i j ≡ true)
use_there c i h = go (used_in c i) refl h
  where
    go : (o : Option ℕ) → used_in c i ≡ o → is_some o ≡ true → (j : ℕ) × (used_in c i ≡ Some j) × (can_use c i j ≡ true)
    go None e k = cc
    go (Some j) e k = (j, e, (first_found (can_use c i) (length c.0) 0 j e).0)

by_true : (a b : Bool) → (a ≡ true → b ≡ true) → b ≡ false → a ≡ false
by_true true b f h = absurd (true≢false (sym (f refl) ∙ h))
by_true false b f h = refl

taken_first : (c : Clause) (i j : ℕ) → use_of c ≡ Some (i, j) → IsFirstUse c i j
taken_first c i j h = outer (hypothesis c) refl h
  where
    found : (k l : ℕ) → hypothesis c ≡ Some k → used_in c k ≡ Some l → IsFirstUse c k l
    found k l e f = record {
      there = (first_found (can_use c k) (length c.0) 0 l f).0;
      first = λ m n less. by_true (can_use c m n) (is_usable c m) (usable c m n) ((first_found (is_usable c) (length c.0) 0 k e).1 m (omega arith) less);
      next = λ n less. (first_found (can_use c k) (length c.0) 0 l f).1 n (omega arith) less;
    }

    inner : (k : ℕ) → hypothesis c ≡ Some k → (o : Option ℕ) → used_in c k ≡ o → and_then {B = ℕ × ℕ} o (λ l. Some (k, l)) ≡ Some (i, j) → IsFirstUse c i j
    inner k e None f m = cc
    inner k e (Some l) f m = let same : (k, l) ≡ (i, j) = same_pair (k, l) (i, j) m in subst (λ (p : ℕ × ℕ). IsFirstUse c p.0 p.1) same (found k l e f)
      where
        same_pair : (p q : ℕ × ℕ) → Some p ≡ Some q → p ≡ q
        same_pair p q h = cc

    outer : (o : Option ℕ) → hypothesis c ≡ o → and_then o (with_use c) ≡ Some (i, j) → IsFirstUse c i j
    outer None e m = cc
    outer (Some k) e m = inner k e (used_in c k) refl m

first_taken : (c : Clause) (i j : ℕ) → IsFirstUse c i j → use_of c ≡ Some (i, j)
first_taken c i j u =
    let above = using_place c i j u.there in
    let below = used_place c i j u.there in
    let inner : used_in c i ≡ Some j = first_is (can_use c i) (length c.0) 0 j (omega arith) (omega arith) u.there (λ l a b. u.next l b) in
    let outer : hypothesis c ≡ Some i = first_is (is_usable c) (length c.0) 0 i (omega arith) (omega arith) (ap is_some inner) (λ k a b. unused k b) in
    ap (λ o. and_then o (with_use c)) outer ∙ ap (λ o. and_then {B = ℕ × ℕ} o (λ l. Some (i, l))) inner
  where
    unused : (k : ℕ) → k < i → is_usable c k ≡ false
    unused k less = go (is_usable c k) refl
      where
        go : (b : Bool) → is_usable c k ≡ b → b ≡ false
        go true e = let (l, is, there) = use_there c k e in absurd (true≢false (sym there ∙ u.first k l less))
        go false e = refl

pub first_use_is_taken : FirstUseIsTaken
first_use_is_taken c i j = (taken_first c i j, first_taken c i j)

made_of : (o : Option Inference) → is_some o ≡ true → (q : Inference) × (o ≡ Some q)
made_of None h = cc
made_of (Some q) h = (q, refl)

pub fertilize_applies : FertilizeApplies
fertilize_applies c i j h =
    let above = using_place c i j h in
    let (k, is) = first_some (is_usable c) (length c.0) 0 i (omega arith) (omega arith) (usable c i j h) in
    let (l, used, there) = use_there c k ((first_found (is_usable c) (length c.0) 0 k is).0) in
    let (q, made) = made_of (fertilise_made c k l) there in
    let places : use_of c ≡ Some (k, l) = ap (λ o. and_then o (with_use c)) is ∙ ap (λ o. and_then {B = ℕ × ℕ} o (λ m. Some (k, m))) used in
    (q, ap (λ o. and_then o (λ (p : ℕ × ℕ). fertilise_made c p.0 p.1)) places ∙ made)
