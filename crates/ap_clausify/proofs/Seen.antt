-- A search from a clause's cursor on: what closes the clause, and where the first `if` stands.
use Rattle.std.proofs.Common.{◌≡◌, ℕ, zero, suc, ◌+◌, ◌-◌, ◌*◌, ◌<◌, ◌≤◌, Bool, true, false, true≢false, ◌&&◌, not, cond, List, [], ◌∷◌, map, length, take, drop, get_or, Option, Some, None, is_some, ◌⊎◌, inl, inr, refl, ap, sym, ◌∙◌, subst, zero-add, add-one, arith}
use Rattle.std.proofs.Math.Nat.{one-mul}
use Rattle.ap_list.specs.Lists.{Each, is_among}
use Rattle.ap_value.specs.Values.{val_of, value_eq}
use Rattle.ap_term.specs.declared.term.Term.{Term}
use Rattle.ap_term.specs.declared.term.Clause.{Clause}
use Rattle.ap_term.specs.Equal.{term_eq}
use Rattle.ap_term.proofs.Equals.{term_eq-true, term_eq-same}
use Rattle.ap_world.specs.Primitives.{nil}
use Rattle.ap_world.specs.Shapes.{Shape, constant, choice, negation, equation, pair, other, shape_of, constant_says, is_constant}
use Rattle.ap_kernel.specs.declared.reductions.Inference.{Inference}
use Rattle.ap_kernel.specs.Reductions.{put_at}
use Rattle.ap_kernel.specs.Splits.{split_made}
use Rattle.ap_kernel.specs.Tidying.{plain, tidied, is_bare, is_plain, is_opposed, holds_by_itself, negates, is_denied}
use Rattle.ap_kernel.proofs.PlainForm.{plain_is}
use Rattle.ap_clausify.specs.Places.{has_if, first_place, or_later, choice_from, first_choice, found}
use Rattle.ap_clausify.specs.Leaves.{product, leaves}
use Rattle.ap_clausify.specs.Scanning.{closed_by, IsTidy, Ready}
use Rattle.ap_clausify.specs.Vanishing.{without_if, Vanishes}
use Rattle.ap_clausify.proofs.Placed.{place_has}
use Rattle.ap_clausify.proofs.LeavesCounted.{put_next, one_leaf}
use Rattle.ap_clausify.proofs.StepsCounted.{choice_cases}
use Rattle.ap_clausify.proofs.Vanished.{Within, or_left, or_right, either, decided_by, nowhere, kept_has, plain_to, more_among}

-- tests
pub and_both : (a b : Bool) → (a && b) ≡ true → (a ≡ true) × (b ≡ true)
and_both true b h = (refl, h)
and_both false b h = cc

pub not_so : (b : Bool) → not b ≡ true → b ≡ false
not_so true h = cc
not_so false h = refl

-- the literals before a place
front_within : (ts : List Term) (k : ℕ) → Each (λ u. has_if u ≡ false) (take k ts) → Within (take k ts) (without_if ts)
front_within ts zero n x h = nowhere h
front_within [] (suc k) n x h = nowhere h
front_within (t ∷ ts) (suc k) n x h =
    subst (λ b. is_among term_eq x (cond b (without_if ts) (t ∷ without_if ts)) ≡ true) (sym n.0) (more_among t x (take k ts) (without_if ts) (front_within ts k n.1 x) h)

literal_among : (ts : List Term) (i : ℕ) (t : Term) → i < length ts → t ≡ get_or ts i t → has_if t ≡ false → is_among term_eq t (without_if ts) ≡ true
literal_among [] i t h e n = absurd (omega arith)
literal_among (u ∷ ts) zero t h e n =
    let its : has_if u ≡ false = ap has_if (sym e) ∙ n in
    subst (λ b. is_among term_eq t (cond b (without_if ts) (u ∷ without_if ts)) ≡ true) (sym its) (or_left (term_eq t u) (is_among term_eq t (without_if ts)) (subst (λ v. term_eq t v ≡ true) e (term_eq-same t)))
literal_among (u ∷ ts) (suc i) t h e n = go (has_if u) (literal_among ts i t (omega arith) e n)
  where
    go : (b : Bool) → is_among term_eq t (without_if ts) ≡ true → is_among term_eq t (cond b (without_if ts) (u ∷ without_if ts)) ≡ true
    go true k = k
    go false k = or_right (term_eq t u) (is_among term_eq t (without_if ts)) k

plain_among : (ts : List Term) (t : Term) → is_among term_eq t ts ≡ true → is_plain (shape_of t) ≡ true → is_constant false t ≡ false → is_among term_eq t (tidied ts) ≡ true
plain_among ts t h p c =
    let there : is_among term_eq t (map plain ts) ≡ true = subst (λ v. is_among term_eq v (map plain ts) ≡ true) (plain_is t p) (plain_to t ts h) in
    go (kept_has t [] (map plain ts) c there)
  where
    go : (false ≡ true) ⊎ (is_among term_eq t (tidied ts) ≡ true) → is_among term_eq t (tidied ts) ≡ true
    go (inl k) = nowhere k
    go (inr k) = k

bare_plain : (y : Shape Term) → is_bare y ≡ true → (is_plain y ≡ true) × (constant_says false y ≡ false)
bare_plain (constant v) h = nowhere h
bare_plain (negation a) h = nowhere h
bare_plain (choice a b c) h = (refl, refl)
bare_plain (equation a b) h = (refl, refl)
bare_plain (pair a b) h = (refl, refl)
bare_plain other h = (refl, refl)

bare_among : (ts : List Term) (t : Term) → is_among term_eq t ts ≡ true → is_bare (shape_of t) ≡ true → is_among term_eq t (tidied ts) ≡ true
bare_among ts t h b = let p = bare_plain (shape_of t) b in plain_among ts t h p.0 p.1

-- what closes some closes more
denier : (xs : List Term) (u : Term) → is_denied xs u ≡ true → (s : Term) × (is_among term_eq s xs ≡ true) × (negates (shape_of s) u ≡ true)
denier [] u h = nowhere h
denier (s ∷ xs) u h = go (either (negates (shape_of s) u) (is_denied xs u) h) (denier xs u)
  where
    go : (negates (shape_of s) u ≡ true) ⊎ (is_denied xs u ≡ true) → (is_denied xs u ≡ true → (v : Term) × (is_among term_eq v xs ≡ true) × (negates (shape_of v) u ≡ true))
        → (v : Term) × (is_among term_eq v (s ∷ xs) ≡ true) × (negates (shape_of v) u ≡ true)
    go (inl k) later = (s, or_left (term_eq s s) (is_among term_eq s xs) (term_eq-same s), k)
    go (inr k) later = let (v, among, n) = later k in (v, or_right (term_eq v s) (is_among term_eq v xs) among, n)

-- a term without `not` around it, and its negation
opposite_holds : (ts : List Term) (s a : Term) → is_among term_eq s ts ≡ true → is_among term_eq a ts ≡ true → shape_of s ≡ negation a → is_bare (shape_of a) ≡ true → holds_by_itself (tidied ts) ≡ true
opposite_holds ts s a m k e b =
    let there : is_among term_eq s (tidied ts) ≡ true = plain_among ts s m (ap is_plain e ∙ b) (ap (constant_says false) e) in
    decided_by (tidied ts) (tidied ts) s there (or_right (is_constant true s) (is_opposed (tidied ts) (shape_of s)) (ap (is_opposed (tidied ts)) e ∙ bare_among ts a k b))

denied_holds : (ts before : List Term) (u : Term) → Within before ts → is_among term_eq u ts ≡ true → is_bare (shape_of u) ≡ true → is_denied before u ≡ true → holds_by_itself (tidied ts) ≡ true
denied_holds ts before u w m b h = let (s, among, n) = denier before u h in go s (w s among) (shape_of s) refl n
  where
    go : (s : Term) → is_among term_eq s ts ≡ true → (y : Shape Term) → shape_of s ≡ y → negates y u ≡ true → holds_by_itself (tidied ts) ≡ true
    go s k (negation a) e n = opposite_holds ts s u k m (e ∙ ap negation (term_eq-true a u n)) b
    go s k (constant v) e n = nowhere n
    go s k (choice a d f) e n = nowhere n
    go s k (equation a d) e n = nowhere n
    go s k (pair a d) e n = nowhere n
    go s k other e n = nowhere n

closed_holds : (ts before : List Term) (u : Term) → Within before ts → is_among term_eq u ts ≡ true → closed_by before u (shape_of u) ≡ true → holds_by_itself (tidied ts) ≡ true
closed_holds ts before u w m h = go (shape_of u) refl h
  where
    true_holds : is_plain (shape_of u) ≡ true → is_constant false u ≡ false → is_constant true u ≡ true → holds_by_itself (tidied ts) ≡ true
    true_holds p c k = decided_by (tidied ts) (tidied ts) u (plain_among ts u m p c) (or_left (is_constant true u) (is_opposed (tidied ts) (shape_of u)) k)

    go : (y : Shape Term) → shape_of u ≡ y → closed_by before u y ≡ true → holds_by_itself (tidied ts) ≡ true
    go (constant v) e k = true_holds (ap is_plain e) (ap (constant_says false) e ∙ not_so (value_eq (val_of v) nil) (sym (ap (constant_says true) e) ∙ k)) k
    go (negation a) e k = let p = and_both (is_bare (shape_of a)) (is_among term_eq a before) k in opposite_holds ts u a m (w a p.1) e p.0
    go (choice a b c) e k = denied_holds ts before u w m (ap is_bare e) k
    go (equation a b) e k = denied_holds ts before u w m (ap is_bare e) k
    go (pair a b) e k = denied_holds ts before u w m (ap is_bare e) k
    go other e k = denied_holds ts before u w m (ap is_bare e) k

pub closed_vanishes : (c : Clause) (i : ℕ) (t : Term) → i < length c.0 → t ≡ get_or c.0 i t → has_if t ≡ false → Each (λ u. has_if u ≡ false) (take i c.0) → closed_by (take i c.0) t (shape_of t) ≡ true → Vanishes c
closed_vanishes c i t within at its none h = closed_holds (without_if c.0) (take i c.0) t (front_within c.0 i none) (literal_among c.0 i t within at its) h

-- the literals before a place
pub next_none : (ts : List Term) (i : ℕ) (t : Term) → i < length ts → t ≡ get_or ts i t → has_if t ≡ false → Each (λ u. has_if u ≡ false) (take i ts) → Each (λ u. has_if u ≡ false) (take (i + 1) ts)
next_none ts i t within at n h = subst (λ k. Each (λ u. has_if u ≡ false) (take k ts)) (sym (add-one i)) (go ts i within at h)
  where
    go : (ts : List Term) (i : ℕ) → i < length ts → t ≡ get_or ts i t → Each (λ u. has_if u ≡ false) (take i ts) → Each (λ u. has_if u ≡ false) (take (suc i) ts)
    go [] i within at h = absurd (omega arith)
    go (u ∷ ts) zero within at h = (ap has_if (sym at) ∙ n, tt)
    go (u ∷ ts) (suc i) within at h = (h.0, go ts i (omega arith) at h.1)

no_place : (u : Term) → has_if u ≡ false → first_place u ≡ None
no_place u h = go (first_place u) (place_has u ∙ h)
  where
    go : (o : Option (List ℕ)) → is_some o ≡ false → o ≡ None
    go None k = refl
    go (Some is) k = cc

choice_behind : (i : ℕ) (ts : List Term) (k : ℕ) (t : Term) (is : List ℕ) → Each (λ u. has_if u ≡ false) (take k ts) → k < length ts → t ≡ get_or ts k t → first_place t ≡ Some is → choice_from i ts ≡ Some (i + k, is)
choice_behind i [] k t is h within at p = absurd (omega arith)
choice_behind i (u ∷ ts) zero t is h within at p =
    let here : first_place u ≡ Some is = ap first_place (sym at) ∙ p in
    ap (λ o. or_later i o (choice_from (i + 1) ts)) here ∙ ap (λ n. Some (n, is)) (omega arith)
choice_behind i (u ∷ ts) (suc k) t is h within at p =
    ap (λ o. or_later i o (choice_from (i + 1) ts)) (no_place u h.0) ∙ choice_behind (i + 1) ts k t is h.1 (omega arith) at p ∙ ap (λ n. Some (n, is)) (omega arith)

pub choice_found : (c : Clause) (k : ℕ) (t : Term) (b : Bool) (at new : List ℕ) → Each (λ u. has_if u ≡ false) (take k c.0) → k < length c.0 → t ≡ get_or c.0 k t → at ≡ [] → (b, new) ≡ found at (first_place t) → b ≡ true → first_choice c ≡ Some (k, new)
choice_found c k t b at new h within here e f q = choice_behind 0 c.0 k t new h within here (go (first_place t) (f ∙ ap (λ xs. found xs (first_place t)) e)) ∙ ap (λ n. Some (n, new)) (zero-add k)
  where
    go : (o : Option (List ℕ)) → (b, new) ≡ found [] o → o ≡ Some new
    go None g = absurd (true≢false (sym q ∙ ap (λ (p : Bool × List ℕ). p.0) g))
    go (Some is) g = ap Some (sym (ap (λ (p : Bool × List ℕ). p.1) g))

-- those before a place have one leaf each
rest_long : (ts : List Term) (k : ℕ) → length (drop k ts) ≤ length ts - k
rest_long ts zero = omega arith
rest_long [] (suc k) = omega arith
rest_long (t ∷ ts) (suc k) = let r = rest_long ts k in omega arith

pub take_all : (ts : List Term) (n : ℕ) → length ts ≤ n → take n ts ≡ ts
take_all [] zero past = refl
take_all [] (suc n) past = refl
take_all (t ∷ ts) zero past = absurd (omega arith)
take_all (t ∷ ts) (suc n) past = ap (λ us. t ∷ us) (take_all ts n (omega arith))

pub front_leaves : (ts : List Term) (k : ℕ) → Each (λ u. has_if u ≡ false) (take k ts) → product (map leaves (take (length ts - k) (drop k ts))) ≡ product (map leaves ts)
front_leaves ts k n = ap (λ us. product (map leaves us)) (take_all (drop k ts) (length ts - k) (rest_long ts k)) ∙ go ts k n
  where
    go : (ts : List Term) (k : ℕ) → Each (λ u. has_if u ≡ false) (take k ts) → product (map leaves (drop k ts)) ≡ product (map leaves ts)
    go ts zero n = refl
    go [] (suc k) n = refl
    go (t ∷ ts) (suc k) n = go ts k n.1 ∙ sym (one-mul (product (map leaves ts))) ∙ ap (λ m. m * product (map leaves ts)) (sym (one_leaf t (no_place t n.0)))

-- a search that finds none
pub none_found : (t : Term) (b : Bool) (at new : List ℕ) → (b, new) ≡ found at (first_place t) → b ≡ false → (has_if t ≡ false) × (new ≡ at)
none_found t b at new f q = go (first_place t) (place_has t) f
  where
    go : (o : Option (List ℕ)) → is_some o ≡ has_if t → (b, new) ≡ found at o → (has_if t ≡ false) × (new ≡ at)
    go None k g = (sym k, ap (λ (p : Bool × List ℕ). p.1) g)
    go (Some is) k g = absurd (true≢false (sym (ap (λ (p : Bool × List ℕ). p.0) g) ∙ q))

pub none_chosen : (c : Clause) (k : ℕ) → length c.0 ≤ k → Each (λ u. has_if u ≡ false) (take k c.0) → first_choice c ≡ None
none_chosen c k past h = go 0 c.0 k past h
  where
    go : (i : ℕ) (ts : List Term) (k : ℕ) → length ts ≤ k → Each (λ u. has_if u ≡ false) (take k ts) → choice_from i ts ≡ None
    go i [] k past h = refl
    go i (u ∷ ts) zero past h = absurd (omega arith)
    go i (u ∷ ts) (suc k) past h = ap (λ o. or_later i o (choice_from (i + 1) ts)) (no_place u h.0) ∙ go (i + 1) ts k (omega arith) h.1

-- what is known of the cases of a clause
put_none : (ts : List Term) (k : ℕ) (ys : List Term) → k ≤ length ts → Each (λ u. has_if u ≡ false) (take k ts) → Each (λ u. has_if u ≡ false) (take k (put_at k ys ts))
put_none ts zero ys w h = tt
put_none [] (suc k) ys w h = absurd (omega arith)
put_none (t ∷ ts) (suc k) ys w h = subst (λ us. Each (λ u. has_if u ≡ false) (take (suc k) us)) (sym (put_next k ys t ts)) (h.0, put_none ts k ys (omega arith) h.1)

put_long : (ts : List Term) (k : ℕ) (ys : List Term) → k ≤ length ts → k ≤ length (put_at k ys ts)
put_long ts zero ys w = omega arith
put_long [] (suc k) ys w = absurd (omega arith)
put_long (t ∷ ts) (suc k) ys w =
    let r = put_long ts k ys (omega arith) in
    subst (λ us. suc k ≤ length us) (sym (put_next k ys t ts)) (longer (length (put_at k ys ts)) r)
  where
    longer : (n : ℕ) → k ≤ n → suc k ≤ suc n
    longer n h = omega arith

put_before : (ts : List Term) (k : ℕ) (ys : List Term) → k ≤ length ts → take k (put_at k ys ts) ≡ take k ts
put_before ts zero ys w = refl
put_before [] (suc k) ys w = absurd (omega arith)
put_before (t ∷ ts) (suc k) ys w = ap (take (suc k)) (put_next k ys t ts) ∙ ap (λ us. t ∷ us) (put_before ts k ys (omega arith))

pub ready_put : (c : Clause) (i : ℕ) (ys : List Term) (b : Bool) → Ready c i b → Ready (record { 0 = put_at i ys c.0 }) i b
ready_put c i ys b r = record {
  within = put_long c.0 i ys r.within;
  none = put_none c.0 i ys r.within r.none;
  tidy = λ h. subst IsTidy (sym (put_before c.0 i ys r.within)) (r.tidy h);
}

pub ready_cases : (c : Clause) (i : ℕ) (is : List ℕ) (b : Bool) (r : Inference) → first_choice c ≡ Some (i, is) → split_made c i is ≡ Some r → Ready c i b → Each (λ d. Ready d i b) r.to
ready_cases c i is b r h m k =
    let s = choice_cases c i is r h m in
    subst (Each (λ d. Ready d i b)) (sym s.to) (ready_put c i s.first b k, (ready_put c i s.second b k, tt))
