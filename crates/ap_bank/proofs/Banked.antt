-- What the type of a bank keeps, as terms are added.
use Rattle.std.proofs.Common.{Result, Ok, Err, IfSome, OnOk, OnErr, ◌≡◌, ℕ, zero, suc, ◌+◌, ◌<◌, take, List, [], ◌∷◌, ◌++◌, length, map, get_or, Option, None, Some, ◌⊎◌, inl, inr, Bool, cond, false, true, refl, sym, ap, ◌∙◌, subst, true≢false, append_assoc, position}
use Rattle.std.specs.Prelude.{slice_get}
use Rattle.std.specs.Option.{option_map}
use Rattle.std.specs.List.{list_any}
use Rattle.std.proofs.lemmas.List.{take_more}
use Rattle.std.proofs.lemmas.List.Quantifiers.{position-Some}
use Rattle.std.proofs.lemmas.Option.{slice_get-get_or}
use Rattle.std.proofs.lemmas.Map.Keys.{any_passes_from_place}
use Rattle.std.specs.Map.{lookup}
use Rattle.indexmap.specs.IndexMap.{insert_entry}
use Rattle.indexmap.specs.IndexSet.{insert_key}
use Rattle.ap_list.specs.Lists.{Each, all_some, with_first}
use Rattle.ap_term.specs.declared.term.Term.{Term, out-Term, Var, Quote, Call}
use Rattle.ap_term.specs.declared.term.Term.TheOpen.{Term-F}
use Rattle.ap_term.specs.declared.term.Term.TheVariants.{outs-Var, outs-Quote, outs-Call}
use Rattle.ap_bank.specs.declared.node.TermId.{TermId}
use Rattle.ap_bank.specs.declared.node.Held.{Held}
use Rattle.ap_bank.specs.declared.node.Held.TheVariants as held
use Rattle.ap_bank.specs.Held.{held_eq}
use Rattle.ap_bank.specs.HeldLaws.{held_eq-true, held_eq-same}
use Rattle.ap_term.proofs.Equals.{term_eq-true}
use Rattle.ap_bank.specs.declared.whole.Whole.{Whole}
use Rattle.ap_bank.specs.Whole.{whole_eq}
use Rattle.ap_bank.specs.Banks.{term_at, terms_at, held_term, Apart, Begins, Banked, IsKnown}

module _ {A : Type 0} where
  -- a list that goes on keeps its places
  pub at_begin : (xs more : List A) (i : ℕ) (x : A) → slice_get xs i ≡ Some x → slice_get (xs ++ more) i ≡ Some x
  at_begin [] more i x h = cc
  at_begin (y ∷ xs) more zero x h = h
  at_begin (y ∷ xs) more (suc i) x h = at_begin xs more i x h

  pub at_end : (xs : List A) (y : A) → slice_get (xs ++ y ∷ []) (length xs) ≡ Some y
  at_end [] y = refl
  at_end (x ∷ xs) y = at_end xs y

  -- a place is one of those before, or the last
  pub place_of : (xs : List A) (y : A) (i : ℕ) (x : A) → slice_get (xs ++ y ∷ []) i ≡ Some x → (slice_get xs i ≡ Some x) ⊎ ((i ≡ length xs) × (y ≡ x))
  place_of [] y zero x h = inr (refl, cc)
  place_of [] y (suc i) x h = cc
  place_of (z ∷ xs) y zero x h = inl h
  place_of (z ∷ xs) y (suc i) x h = up (place_of xs y i x h)
    where
      up : (slice_get xs i ≡ Some x) ⊎ ((i ≡ length xs) × (y ≡ x)) → (slice_get xs i ≡ Some x) ⊎ ((suc i ≡ suc (length xs)) × (y ≡ x))
      up (inl k) = inl k
      up (inr k) = inr (ap suc k.0, k.1)

  pub all_first : (o : Option A) (os : List (Option A)) (xs : List A) → all_some (o ∷ os) ≡ Some xs
      → (x : A) × (ys : List A) × (o ≡ Some x) × (all_some os ≡ Some ys) × (xs ≡ x ∷ ys)
  all_first None os xs h = cc
  all_first (Some x) os xs h = go (all_some os) refl h
    where
      go : (r : Option (List A)) → all_some os ≡ r → with_first x r ≡ Some xs → (z : A) × (ys : List A) × (Some x ≡ Some z) × (all_some os ≡ Some ys) × (xs ≡ z ∷ ys)
      go None e k = cc
      go (Some ys) e k = (x, ys, refl, e, cc)

module _ {A B C : Type 0} (f : A → C) (g : B → C) where
  -- lists that one word makes of two others go place by place
  pub from_right : (xs : List A) (ys : List B) → map f xs ≡ map g ys → (i : ℕ) (y : B) → slice_get ys i ≡ Some y → (x : A) × (slice_get xs i ≡ Some x) × (f x ≡ g y)
  from_right xs [] e i y h = cc
  from_right [] (z ∷ ys) e i y h = cc
  from_right (x ∷ xs) (z ∷ ys) e zero y h = (x, refl, cc)
  from_right (x ∷ xs) (z ∷ ys) e (suc i) y h = let d : map f xs ≡ map g ys = cc in from_right xs ys d i y h

  pub from_left : (xs : List A) (ys : List B) → map f xs ≡ map g ys → (i : ℕ) (x : A) → slice_get xs i ≡ Some x → (y : B) × (slice_get ys i ≡ Some y) × (f x ≡ g y)
  from_left [] ys e i x h = cc
  from_left (z ∷ xs) [] e i x h = cc
  from_left (z ∷ xs) (y ∷ ys) e zero x h = (y, refl, cc)
  from_left (z ∷ xs) (y ∷ ys) e (suc i) x h = let d : map f xs ≡ map g ys = cc in from_left xs ys d i x h

  pub with_last : (xs : List A) (ys : List B) (x : A) (y : B) → map f xs ≡ map g ys → f x ≡ g y → map f (xs ++ x ∷ []) ≡ map g (ys ++ y ∷ [])
  with_last [] [] x y e h = ap (λ z. z ∷ []) h
  with_last (a ∷ xs) (b ∷ ys) x y e h =
      let p : f a ≡ g b = cc in
      let q : map f xs ≡ map g ys = cc in
      ap (λ z. z ∷ map f (xs ++ x ∷ [])) p ∙ ap (λ z. g b ∷ z) (with_last xs ys x y q h)
  with_last [] (b ∷ ys) x y e h = cc
  with_last (a ∷ xs) [] x y e h = cc

-- a list goes on as a list that goes on as it
pub begins_same : (ts : List Term) → Begins ts ts
begins_same ts = record { more = []; is = sym (append_nil ts) }
  where
    append_nil : (xs : List Term) → xs ++ [] ≡ xs
    append_nil [] = refl
    append_nil (x ∷ xs) = ap (λ z. x ∷ z) (append_nil xs)

pub begins_then : (a b c : List Term) → Begins a b → Begins b c → Begins a c
begins_then a b c p q = record { more = p.more ++ q.more; is = q.is ∙ ap (λ z. z ++ q.more) p.is ∙ append_assoc a p.more q.more }

pub begins_push : (ts : List Term) (t : Term) → Begins ts (ts ++ t ∷ [])
begins_push ts t = record { more = t ∷ []; is = refl }

-- what a number or a node stands for stays
pub term_stays : (old new : List Term) → Begins old new → (i : TermId) (t : Term) → term_at old i ≡ Some t → term_at new i ≡ Some t
term_stays old new b i t h = ap (λ z. slice_get z i.0) b.is ∙ at_begin old b.more i.0 t h

pub terms_begin : (ts more : List Term) (is : List TermId) (us : List Term) → terms_at ts is ≡ Some us → terms_at (ts ++ more) is ≡ Some us
terms_begin ts more [] us h = h
terms_begin ts more (i ∷ is) us h =
    let p = all_first (term_at ts i) (map (term_at ts) is) us h in
    let one = at_begin ts more i.0 p.0 p.2 in
    let rest = terms_begin ts more is p.1 p.3 in
    rw (one, rest) (ap Some (sym p.4))

pub terms_stay : (old new : List Term) → Begins old new → (is : List TermId) (us : List Term) → terms_at old is ≡ Some us → terms_at new is ≡ Some us
terms_stay old new b is us h = ap (λ z. terms_at z is) b.is ∙ terms_begin old b.more is us h

-- one number more
pub terms_push : (ts : List Term) (is : List TermId) (us : List Term) (i : TermId) (u : Term) → terms_at ts is ≡ Some us → term_at ts i ≡ Some u → terms_at ts (is ++ i ∷ []) ≡ Some (us ++ u ∷ [])
terms_push ts [] us i u h k = let e : us ≡ [] = cc in rw (k, e) refl
terms_push ts (j ∷ is) us i u h k =
    let p = all_first (term_at ts j) (map (term_at ts) is) us h in
    rw (p.2, terms_push ts is p.1 i u p.3 k) (ap (λ z. Some (z ++ u ∷ [])) (sym p.4))

held_begin : (ts more : List Term) (a : Held) (t : Term) → held_term ts a ≡ Some t → held_term (ts ++ more) a ≡ Some t
held_begin ts more (held.Var x) t h = h
held_begin ts more (held.Quote v) t h = h
held_begin ts more (held.Call f is) t h = go (terms_at ts is) refl h
  where
    go : (r : Option (List Term)) → terms_at ts is ≡ r → option_map (Call f) r ≡ Some t → option_map (Call f) (terms_at (ts ++ more) is) ≡ Some t
    go None e k = cc
    go (Some us) e k = rw (terms_begin ts more is us e) k

pub held_stays : (old new : List Term) → Begins old new → (a : Held) (t : Term) → held_term old a ≡ Some t → held_term new a ≡ Some t
held_stays old new b a t h = ap (λ z. held_term z a) b.is ∙ held_begin old b.more a t h

-- a node stands for one term, and where no term stands twice two nodes don't stand for one
abbrev Outs : List Term → Held → Term-F Term → Type 0
Outs ts (held.Var x) y = y ≡ Term-F.Var x
Outs ts (held.Quote v) y = y ≡ Term-F.Quote v
Outs ts (held.Call f is) y = (us : List Term) × (terms_at ts is ≡ Some us) × (y ≡ Term-F.Call f us)

outs : (ts : List Term) (a : Held) (t : Term) → held_term ts a ≡ Some t → Outs ts a (out-Term t)
outs ts (held.Var x) t h = let e : Var x ≡ t = cc in ap out-Term (sym e) ∙ outs-Var x
outs ts (held.Quote v) t h = let e : Quote v ≡ t = cc in ap out-Term (sym e) ∙ outs-Quote v
outs ts (held.Call f is) t h = go (terms_at ts is) refl h
  where
    go : (r : Option (List Term)) → terms_at ts is ≡ r → option_map (Call f) r ≡ Some t → Outs ts (held.Call f is) (out-Term t)
    go None e k = cc
    go (Some us) e k = let s : Call f us ≡ t = cc in (us, e, ap out-Term (sym s) ∙ outs-Call f us)

ids_one : (ts : List Term) → Apart ts → (is js : List TermId) (us : List Term) → terms_at ts is ≡ Some us → terms_at ts js ≡ Some us → is ≡ js
ids_one ts a [] [] us h k = refl
ids_one ts a [] (j ∷ js) us h k = let p = all_first (term_at ts j) (map (term_at ts) js) us k in let e : us ≡ p.0 ∷ p.1 = p.4 in cc
ids_one ts a (i ∷ is) [] us h k = let p = all_first (term_at ts i) (map (term_at ts) is) us h in let e : us ≡ p.0 ∷ p.1 = p.4 in cc
ids_one ts a (i ∷ is) (j ∷ js) us h k =
    let p = all_first (term_at ts i) (map (term_at ts) is) us h in
    let q = all_first (term_at ts j) (map (term_at ts) js) us k in
    let e : us ≡ p.0 ∷ p.1 = p.4 in
    let f : us ≡ q.0 ∷ q.1 = q.4 in
    let x : p.0 ≡ q.0 = cc in
    let y : q.1 ≡ p.1 = cc in
    let n : i.0 ≡ j.0 = a i.0 j.0 q.0 (p.2 ∙ ap Some x) q.2 in
    let one : i ≡ j = λ m. record { 0 = n m } in
    ap (λ z. z ∷ is) one ∙ ap (λ z. j ∷ z) (ids_one ts a is js p.1 p.3 (q.3 ∙ ap Some y))

held_one : (ts : List Term) → Apart ts → (a b : Held) (y : Term-F Term) → Outs ts a y → Outs ts b y → a ≡ b
held_one ts p (held.Var x) (held.Var z) y h k = let e : x ≡ z = cc in ap held.Var e
held_one ts p (held.Quote v) (held.Quote w) y h k = let e : v ≡ w = cc in ap held.Quote e
held_one ts p (held.Call f is) (held.Call g js) y h k =
    let hy = h.2 in
    let ky = k.2 in
    let e : f ≡ g = cc in
    let u : k.0 ≡ h.0 = cc in
    ap (λ z. held.Call z is) e ∙ ap (λ z. held.Call g z) (ids_one ts p is js h.0 h.1 (k.1 ∙ ap Some u))
held_one ts p (held.Var x) (held.Quote w) y h k = cc
held_one ts p (held.Var x) (held.Call g js) y h k = let e = k.2 in cc
held_one ts p (held.Quote v) (held.Var z) y h k = cc
held_one ts p (held.Quote v) (held.Call g js) y h k = let e = k.2 in cc
held_one ts p (held.Call f is) (held.Var z) y h k = let e = h.2 in cc
held_one ts p (held.Call f is) (held.Quote w) y h k = let e = h.2 in cc

module _ (keys : List Held) (ts : List Term) (b : Banked keys ts) where
  -- a node at a place stands for the term there
  pub held_at : (i : ℕ) (a : Held) → slice_get keys i ≡ Some a → held_term ts a ≡ slice_get ts i
  held_at i a h = let p = from_left (held_term ts) Some keys ts b.made i a h in p.2 ∙ sym p.1

  -- a node that is found stands for the term at its place
  pub found_at : (a : Held) (t : Term) → held_term ts a ≡ Some t → (i : ℕ) → position (held_eq a) keys ≡ Some i → slice_get ts i ≡ Some t
  found_at a t is i p =
      let q = position-Some (held_eq a) keys i a p in
      let at = slice_get-get_or keys i a q.0 in
      let same = held_eq-true a (get_or keys i a) q.1 in
      sym (held_at i (get_or keys i a) at) ∙ ap (held_term ts) (sym same) ∙ is

  module _ (a : Held) (t : Term) (is : held_term ts a ≡ Some t) (absent : list_any (held_eq a) keys ≡ false) where
    -- where a node isn't there, nor is its term
    new_term : (i : ℕ) → slice_get ts i ≡ Some t → ⊥
    new_term i h =
        let p = from_right (held_term ts) Some keys ts b.made i t h in
        let same : a ≡ p.0 = held_one ts b.apart a p.0 (out-Term t) (outs ts a t is) (outs ts p.0 t p.2) in
        let there = any_passes_from_place (held_eq a) keys i p.0 p.1 (subst (λ z. held_eq a z ≡ true) same (held_eq-same a)) in
        true≢false (sym there ∙ absent)

    all_begin : (hs : List Held) (us : List Term) → map (held_term ts) hs ≡ map Some us → map (held_term (ts ++ t ∷ [])) hs ≡ map Some us
    all_begin [] us e = e
    all_begin (h ∷ hs) (u ∷ us) e =
        let p : held_term ts h ≡ Some u = cc in
        let q : map (held_term ts) hs ≡ map Some us = cc in
        ap (λ z. z ∷ map (held_term (ts ++ t ∷ [])) hs) (held_begin ts (t ∷ []) h u p) ∙ ap (λ z. Some u ∷ z) (all_begin hs us q)
    all_begin (h ∷ hs) [] e = cc

    pub banked_push : Banked (keys ++ a ∷ []) (ts ++ t ∷ [])
    banked_push = record {
      made = with_last (held_term (ts ++ t ∷ [])) Some keys ts a t (all_begin keys ts b.made) (held_begin ts (t ∷ []) a t is);
      apart = λ i j u h k. split i j u (place_of ts t i u h) (place_of ts t j u k);
    }
      where
        split : (i j : ℕ) (u : Term) → (slice_get ts i ≡ Some u) ⊎ ((i ≡ length ts) × (t ≡ u)) → (slice_get ts j ≡ Some u) ⊎ ((j ≡ length ts) × (t ≡ u)) → i ≡ j
        split i j u (inl h) (inl k) = b.apart i j u h k
        split i j u (inr h) (inr k) = h.0 ∙ sym k.0
        split i j u (inl h) (inr k) = absurd (new_term i (h ∙ ap Some (sym k.1)))
        split i j u (inr h) (inl k) = absurd (new_term j (k ∙ ap Some (sym h.1)))

    -- the same of what a table of nodes has after an insertion
    pub banked_insert : (nodes : List Held) (us : List Term) → nodes ≡ insert_key held_eq keys a → us ≡ ts ++ t ∷ [] → Banked nodes us
    banked_insert nodes us h k =
        let e : nodes ≡ keys ++ a ∷ [] = h ∙ rw absent refl in
        subst (λ z. Banked z us) (sym e) (subst (λ z. Banked (keys ++ a ∷ []) z) (sym k) banked_push)

pub pushed_at : (ts us : List Term) (t : Term) (n : ℕ) → us ≡ ts ++ t ∷ [] → n ≡ length ts → slice_get us n ≡ Some t
pushed_at ts us t n h k = ap (slice_get us) k ∙ ap (λ z. slice_get z (length ts)) h ∙ at_end ts t

-- the elements so far and the next one
pub taken_more : (us : List Term) (i : ℕ) (u : Term) → i < length us → u ≡ get_or us i u → take i us ++ u ∷ [] ≡ take (i + 1) us
taken_more us i u h k = sym (take_more us i u h ∙ ap (λ z. take i us ++ z ∷ []) (sym k))

-- the numbers that are kept of terms, as the terms go on and numbers come
pub known_stay : (old new : List Term) → Begins old new → (es : List (Whole × TermId)) → Each (IsKnown old) es → Each (IsKnown new) es
known_stay old new b [] k = tt
known_stay old new b (e ∷ es) k = (term_stays old new b e.1 e.0.term k.0, known_stay old new b es k.1)

known_put : (ts : List Term) (w : Whole) (i : TermId) (e : Whole × TermId) (es fs : List (Whole × TermId)) (b : Bool) → whole_eq w e.0 ≡ b → term_at ts i ≡ Some w.term
    → IsKnown ts e → Each (IsKnown ts) es → Each (IsKnown ts) fs → Each (IsKnown ts) (cond b ((e.0, i) ∷ es) (e ∷ fs))
known_put ts w i e es fs true q h k l m = (h ∙ ap Some (term_eq-true w.term e.0.term q), l)
known_put ts w i e es fs false q h k l m = (k, m)

pub known_add : (ts : List Term) (w : Whole) (i : TermId) → term_at ts i ≡ Some w.term → (es : List (Whole × TermId)) → Each (IsKnown ts) es → Each (IsKnown ts) (insert_entry whole_eq es w i)
known_add ts w i h [] k = (h, tt)
known_add ts w i h (e ∷ es) k = known_put ts w i e es (insert_entry whole_eq es w i) (whole_eq w e.0) refl h k.0 k.1 (known_add ts w i h es k.1)

known_got : (ts : List Term) (w : Whole) (i : TermId) (e : Whole × TermId) (o : Option TermId) (b : Bool) → whole_eq w e.0 ≡ b → IsKnown ts e
    → (o ≡ Some i → term_at ts i ≡ Some w.term) → cond b (Some e.1) o ≡ Some i → term_at ts i ≡ Some w.term
known_got ts w i e o true q k f h = let j : e.1 ≡ i = cc in ap (term_at ts) (sym j) ∙ k ∙ ap Some (sym (term_eq-true w.term e.0.term q))
known_got ts w i e o false q k f h = f h

pub known_found : (ts : List Term) (w : Whole) (i : TermId) (es : List (Whole × TermId)) → Each (IsKnown ts) es → lookup (whole_eq w) es ≡ Some i → term_at ts i ≡ Some w.term
known_found ts w i [] k h = cc
known_found ts w i (e ∷ es) k h = known_got ts w i e (lookup (whole_eq w) es) (whole_eq w e.0) refl k.0 (known_found ts w i es k.1) h

-- the same of what is found, or isn't
pub number_found : (ts us : List Term) (w : Whole) (o : Option TermId) (es : List (Whole × TermId)) → ts ≡ us → Each (IsKnown ts) es → o ≡ lookup (whole_eq w) es → IfSome o (λ i. term_at us i ≡ Some w.term)
number_found ts us w None es e k h = tt
number_found ts us w (Some i) es e k h = ap (λ z. term_at z i) (sym e) ∙ known_found ts w i es k (sym h)

-- and of what is kept, or for want of memory isn't
pub known_after : {A E : Type 0} (r : Result A E) (ts us : List Term) (w : Whole) (i : TermId) (es fs : List (Whole × TermId)) → ts ≡ us → Each (IsKnown ts) es → term_at us i ≡ Some w.term
    → OnOk r (fs ≡ insert_entry whole_eq es w i) → OnErr r (fs ≡ es) → Each (IsKnown ts) fs
known_after (Ok a) ts us w i es fs e k h put stay = subst (Each (IsKnown ts)) (sym put) (known_add ts w i (ap (λ z. term_at z i) e ∙ h) es k)
known_after (Err a) ts us w i es fs e k h put stay = subst (Each (IsKnown ts)) (sym stay) k
